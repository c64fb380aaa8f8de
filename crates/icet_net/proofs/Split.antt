-- Two machines of one slice, which is parted between them.
use Rattle.std.proofs.Common.{◌≡◌, ◌≢◌, ℕ, ◌+◌, ◌-◌, ◌<◌, ◌≤◌, List, ◌++◌, length, get_or, set, sym, ap, ◌∙◌, arith, ⊎_elim, length-append}
use Rattle.std.proofs.lemmas.List.{get_or-set_same, get_or-set_other, length-set, get_or_append_left, get_or-append-add}
use Rattle.std.proofs.lemmas.Bool.{cases_lt}
use Rattle.icet_rank.specs.Moves.{Met, ArePaired}
use Rattle.icet_rank.specs.Machine.{MachineView}
use Rattle.icet_net.specs.Ranks.{machine_at, no_machine}
use Rattle.icet_net.specs.Syncs.{MetPair}
use Rattle.icet_model.proofs.Lists.{any_default}

-- two places of a list were written
pub record TwoWritten {X : Type 0} (d : X) (i j : ℕ) (x y : X) (old new : List X) : Type 0 where
  pub count : length new ≡ length old
  pub first : get_or new i d ≡ x
  pub second : get_or new j d ≡ y
  pub others : (k : ℕ) → k ≢ i → k ≢ j → get_or new k d ≡ get_or old k d

module _ {X : Type 0} (d : X) (front back : List X) (i : ℕ) (x y : X) (l : i < length front) (m : 0 < length back) where
  long : length (set front i x) ≡ length front
  long = length-set front i x

  behind : (k : ℕ) → length front ≤ k → get_or (set front i x ++ set back 0 y) k d ≡ get_or (set back 0 y) (k - length front) d
  behind k h = ap (λ n. get_or (set front i x ++ set back 0 y) n d) (let e = long in let f : k ≡ length (set front i x) + (k - length front) = omega (arith, e, h) in f) ∙ get_or-append-add (set front i x) (set back 0 y) (k - length front) d

  behind_old : (k : ℕ) → length front ≤ k → get_or (front ++ back) k d ≡ get_or back (k - length front) d
  behind_old k h = ap (λ n. get_or (front ++ back) n d) (let f : k ≡ length front + (k - length front) = omega (arith, h) in f) ∙ get_or-append-add front back (k - length front) d

  pub two_set : TwoWritten d i (length front) x y (front ++ back) (set front i x ++ set back 0 y)
  two_set = record {
    count = let e = long in let f = length-set back 0 y in let g = length-append (set front i x) (set back 0 y) in let h = length-append front back in omega (arith, e, f, g, h);
    first = get_or_append_left (set front i x) (set back 0 y) d i (let e = long in omega (arith, e, l)) ∙ get_or-set_same front i x d l;
    second = behind (length front) (omega arith) ∙ (ap (λ n. get_or (set back 0 y) n d) (let e : length front - length front ≡ 0 = omega arith in e) ∙ get_or-set_same back 0 y d m);
    others = λ k ni nj.
        ⊎_elim
        (λ (h : k < length front). get_or_append_left (set front i x) (set back 0 y) d k (let e = long in omega (arith, e, h)) ∙ (get_or-set_other front i k x d ni ∙ sym (get_or_append_left front back d k h)))
        (λ (h : length front ≤ k). behind k h ∙ (get_or-set_other back 0 (k - length front) y d (λ z. nj (omega (arith, z, h))) ∙ sym (behind_old k h)))
        (cases_lt k (length front));
  }

-- the same with the two places named the other way round
pub turned : {X : Type 0} (d : X) (i j : ℕ) (x y : X) (old new : List X) → TwoWritten d i j x y old new → TwoWritten d j i y x old new
turned d i j x y old new t = record { count = t.count; first = t.second; second = t.first; others = λ k a b. t.others k b a }

module _ (q r cap : ℕ) (x y : MachineView) (old new : List MachineView) where
  pub met_pair : (a b : MachineView) → machine_at old q ≡ a → machine_at old r ≡ b → TwoWritten no_machine q r x y old new → x ≡ record a { outboxes = x.outboxes } → y ≡ record b { inboxes = y.inboxes } → Met r a.outboxes x.outboxes → Met q b.inboxes y.inboxes → ArePaired q r cap x.outboxes y.inboxes → MetPair q r cap old new
  met_pair a b ea eb t sa sb out inbox paired = record {
    count = t.count;
    others = t.others;
    sender = rw (t.first, ea) sa;
    receiver = rw (t.second, eb) sb;
    out = rw (t.first, ea) out;
    inbox = rw (t.second, eb) inbox;
    paired = rw (t.first, t.second) paired;
  }

  module _ (front back : List MachineView) (is : old ≡ front ++ back) (a b : MachineView) where
    in_front : (i : ℕ) (m d : MachineView) → i < length front → m ≡ get_or front i d → machine_at old i ≡ m
    in_front i m d l e = ap (λ xs. get_or xs i no_machine) is ∙ (get_or_append_left front back no_machine i l ∙ (any_default front i no_machine d l ∙ sym e))

    in_back : (i : ℕ) (m d : MachineView) → length front ≡ i → 0 < length back → m ≡ get_or back 0 d → machine_at old i ≡ m
    in_back i m d l h e = ap (λ xs. get_or xs i no_machine) is ∙ (ap (λ n. get_or (front ++ back) n no_machine) (let f : i ≡ length front + 0 = omega (arith, l) in f) ∙ (get_or-append-add front back 0 no_machine ∙ any_default back 0 no_machine d h) ∙ sym e)

    rest_there : (i : ℕ) → length front ≡ i → i < length old → 0 < length back
    rest_there i l h = let e = ap length is in let f = length-append front back in omega (arith, l, h, e, f)

    pub met_then : (s : ℕ) (d e : MachineView) → s ≡ q → length front ≡ r → q < r → r < length old → a ≡ get_or front s d → b ≡ get_or back 0 e → (machine_at old q).number ≡ q → (machine_at old r).number ≡ r → x ≡ record a { outboxes = x.outboxes } → y ≡ record b { inboxes = y.inboxes } → Met b.number a.outboxes x.outboxes → Met a.number b.inboxes y.inboxes → ArePaired a.number b.number cap x.outboxes y.inboxes → new ≡ set front s x ++ set back 0 y → MetPair q r cap old new
    met_then s d e es lf l lr ea eb nq nr sa sb out inbox paired isnew =
        let hb = rest_there r lf lr in
        let ma : machine_at old q ≡ a = in_front q a d (omega (arith, l, lf)) (rw (← es) ea) in
        let mb : machine_at old r ≡ b = in_back r b e lf hb eb in
        let na : a.number ≡ q = ap (λ (m : MachineView). m.number) (sym ma) ∙ nq in
        let nb : b.number ≡ r = ap (λ (m : MachineView). m.number) (sym mb) ∙ nr in
        let t : TwoWritten no_machine q r x y old new = rw (isnew, is, es, ← lf) (two_set no_machine front back q x y (omega (arith, l, lf)) hb) in
        met_pair a b ma mb t sa sb (rw (← nb) out) (rw (← na) inbox) (rw (← na, ← nb) paired)

    pub met_else : (s : ℕ) (d e : MachineView) → s ≡ r → length front ≡ q → r < q → q < length old → b ≡ get_or front s d → a ≡ get_or back 0 e → (machine_at old q).number ≡ q → (machine_at old r).number ≡ r → x ≡ record a { outboxes = x.outboxes } → y ≡ record b { inboxes = y.inboxes } → Met b.number a.outboxes x.outboxes → Met a.number b.inboxes y.inboxes → ArePaired a.number b.number cap x.outboxes y.inboxes → new ≡ set front s y ++ set back 0 x → MetPair q r cap old new
    met_else s d e es lf l lq eb ea nq nr sa sb out inbox paired isnew =
        let ha = rest_there q lf lq in
        let mb : machine_at old r ≡ b = in_front r b d (omega (arith, l, lf)) (rw (← es) eb) in
        let ma : machine_at old q ≡ a = in_back q a e lf ha ea in
        let na : a.number ≡ q = ap (λ (m : MachineView). m.number) (sym ma) ∙ nq in
        let nb : b.number ≡ r = ap (λ (m : MachineView). m.number) (sym mb) ∙ nr in
        let t : TwoWritten no_machine r q y x old new = rw (isnew, is, es, ← lf) (two_set no_machine front back r y x (omega (arith, l, lf)) ha) in
        met_pair a b ma mb (turned no_machine r q y x old new t) sa sb (rw (← nb) out) (rw (← na) inbox) (rw (← na, ← nb) paired)
