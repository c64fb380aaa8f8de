-- What a local run sends and takes, and where in a program.
use Rattle.std.proofs.Common.{◌≡◌, ℕ, zero, suc, ◌+◌, ◌<◌, ◌≤◌, Bool, true, false, cond, List, [], ◌∷◌, ◌++◌, length, take, drop, refl, sym, ap, ◌∙◌, arith, Option, Some, length-append, eqb-true}
use Rattle.std.proofs.lemmas.List.{append_assoc, append-nil}
use Rattle.std.specs.Prelude.{◌==◌}
use Rattle.std.specs.List.{filter, slice_get}
use Rattle.icet_model.specs.declared.exchange.Kind.{Kind}
use Rattle.icet_model.specs.declared.exchange.Kind.TheVariants.{Send, Take}
use Rattle.icet_model.specs.declared.exchange.Exchange.{Exchange}
use Rattle.icet_model.specs.declared.exchange.Op.{Op}
use Rattle.icet_model.specs.declared.exchange.Op.TheVariants.{Load, Blank, Cut, Join, Swap, Keep}
use Rattle.icet_model.specs.Exchange.{is_send_of, is_take_of, sends_to, takes_from}
use Rattle.icet_model.specs.Core.{passed}
use Rattle.icet_model.specs.Exchange.{of_op, exchanges}
use Rattle.icet_model.specs.Run.{Carrier, MessageView, Local, fresh, swapped, step, message_for, run, upto, given, message_of}
use Rattle.icet_model.proofs.Lists.{take_next_suc}
use Rattle.icet_plan.proofs.Lists.{filter-append, slice_front, slice_get_append}

pub exchanges-append : (xs ys : List Op) → exchanges (xs ++ ys) ≡ exchanges xs ++ exchanges ys
exchanges-append [] ys = refl
exchanges-append (op ∷ xs) ys = ap (λ r. of_op op ++ r) (exchanges-append xs ys) ∙ sym (append_assoc (of_op op) (exchanges xs) (exchanges ys))

pub run-append : {T : Type 0} (c : Carrier T) (me : ℕ) (t : ℕ → List (MessageView T)) (xs ys : List Op) (s : Local T) → run c me t (xs ++ ys) s ≡ run c me t ys (run c me t xs s)
run-append c me t [] ys s = refl
run-append c me t (op ∷ xs) ys s = run-append c me t xs ys (step c me (message_for t s.used op) op s)

-- a list of messages grew by so many
pub record Grew {T : Type 0} (old new : List (MessageView T)) (count : ℕ) : Type 0 where
  pub more : List (MessageView T)
  pub is : new ≡ old ++ more
  pub number : length more ≡ count

pub count_of : (Exchange → Bool) → List Exchange → ℕ
count_of p es = length (filter p es)

swap_sends : {T : Type 0} (c : Carrier T) (me : ℕ) (m : Option (MessageView T)) (k : Kind) (e : Exchange) (slot : ℕ) (s : Local T) (r : ℕ) → Grew (s.sent r) ((swapped c me m k e slot s).sent r) (length (cond (is_send_of k e.peer r) (e ∷ []) []))
swap_sends {T} c me m Send e slot s r = go (e.peer == r) refl
  where
    go : (b : Bool) → (e.peer == r) ≡ b → Grew (s.sent r) (cond b (s.sent e.peer ++ message_of e me (given c e (s.slots slot)) ∷ []) (s.sent r)) (length (cond b (e ∷ []) []))
    go true h = record { more = message_of e me (given c e (s.slots slot)) ∷ []; is = ap (λ z. s.sent z ++ message_of e me (given c e (s.slots slot)) ∷ []) (eqb-true e.peer r h); number = refl }
    go false h = record { more = []; is = sym (append-nil (s.sent r)); number = refl }
swap_sends c me m Take e slot s r = record { more = []; is = sym (append-nil (s.sent r)); number = refl }

pub step_sends : {T : Type 0} (c : Carrier T) (me : ℕ) (m : Option (MessageView T)) (op : Op) (s : Local T) (r : ℕ) → Grew (s.sent r) ((step c me m op s).sent r) (length (filter (sends_to r) (of_op op)))
step_sends c me m (Load tile slot) s r = record { more = []; is = sym (append-nil (s.sent r)); number = refl }
step_sends c me m (Blank tile slot) s r = record { more = []; is = sym (append-nil (s.sent r)); number = refl }
step_sends c me m (Cut slot at into) s r = record { more = []; is = sym (append-nil (s.sent r)); number = refl }
step_sends c me m (Join front back into) s r = record { more = []; is = sym (append-nil (s.sent r)); number = refl }
step_sends c me m (Swap e slot) s r = swap_sends c me m e.kind e slot s r
step_sends c me m (Keep slot) s r = record { more = []; is = sym (append-nil (s.sent r)); number = refl }

swap_uses : {T : Type 0} (c : Carrier T) (me : ℕ) (m : Option (MessageView T)) (k : Kind) (e : Exchange) (slot : ℕ) (s : Local T) (q : ℕ) → (swapped c me m k e slot s).used q ≡ s.used q + length (cond (is_take_of k e.peer q) (e ∷ []) [])
swap_uses c me m Send e slot s q = omega arith
swap_uses c me m Take e slot s q = go (e.peer == q) refl
  where
    go : (b : Bool) → (e.peer == q) ≡ b → cond b (suc (s.used e.peer)) (s.used q) ≡ s.used q + length (cond b (e ∷ []) [])
    go true h = omega (arith, ap s.used (eqb-true e.peer q h))
    go false h = omega arith

pub step_uses : {T : Type 0} (c : Carrier T) (me : ℕ) (m : Option (MessageView T)) (op : Op) (s : Local T) (q : ℕ) → (step c me m op s).used q ≡ s.used q + length (filter (takes_from q) (of_op op))
step_uses c me m (Load tile slot) s q = omega arith
step_uses c me m (Blank tile slot) s q = omega arith
step_uses c me m (Cut slot at into) s q = omega arith
step_uses c me m (Join front back into) s q = omega arith
step_uses c me m (Swap e slot) s q = swap_uses c me m e.kind e slot s q
step_uses c me m (Keep slot) s q = omega arith

count-append : (p : Exchange → Bool) (xs ys : List Exchange) → length (filter p (xs ++ ys)) ≡ length (filter p xs) + length (filter p ys)
count-append p xs ys = ap length (filter-append p xs ys) ∙ length-append (filter p xs) (filter p ys)

pub run_sends : {T : Type 0} (c : Carrier T) (me : ℕ) (t : ℕ → List (MessageView T)) (ops : List Op) (s : Local T) (r : ℕ) → Grew (s.sent r) ((run c me t ops s).sent r) (length (filter (sends_to r) (exchanges ops)))
run_sends c me t [] s r = record { more = []; is = sym (append-nil (s.sent r)); number = refl }
run_sends c me t (op ∷ ops) s r =
    let m = message_for t s.used op in
    let one = step_sends c me m op s r in
    let all = run_sends c me t ops (step c me m op s) r in
    record {
      more = one.more ++ all.more;
      is = all.is ∙ (ap (λ xs. xs ++ all.more) one.is ∙ append_assoc (s.sent r) one.more all.more);
      number = omega (arith, length-append one.more all.more, one.number, all.number, count-append (sends_to r) (of_op op) (exchanges ops));
    }

pub run_uses : {T : Type 0} (c : Carrier T) (me : ℕ) (t : ℕ → List (MessageView T)) (ops : List Op) (s : Local T) (q : ℕ) → (run c me t ops s).used q ≡ s.used q + length (filter (takes_from q) (exchanges ops))
run_uses c me t [] s q = omega arith
run_uses c me t (op ∷ ops) s q =
    let m = message_for t s.used op in
    omega (arith, step_uses c me m op s q, run_uses c me t ops (step c me m op s) q, count-append (takes_from q) (of_op op) (exchanges ops))

pub upto_sends : {T : Type 0} (c : Carrier T) (me : ℕ) (t : ℕ → List (MessageView T)) (ops : List Op) (n r : ℕ) → length ((upto c me t ops n).sent r) ≡ length (filter (sends_to r) (exchanges (take n ops)))
upto_sends c me t ops n r = let g = run_sends c me t (take n ops) fresh r in ap length g.is ∙ g.number

pub upto_uses : {T : Type 0} (c : Carrier T) (me : ℕ) (t : ℕ → List (MessageView T)) (ops : List Op) (n q : ℕ) → (upto c me t ops n).used q ≡ length (filter (takes_from q) (exchanges (take n ops)))
upto_uses c me t ops n q = omega (arith, run_uses c me t (take n ops) fresh q)

-- the state at a later place has sent more
pub upto_grows : {T : Type 0} (c : Carrier T) (me : ℕ) (t : ℕ → List (MessageView T)) (ops : List Op) (m n r : ℕ) → m ≤ n → (more : List (MessageView T)) × ((upto c me t ops n).sent r ≡ (upto c me t ops m).sent r ++ more)
upto_grows {T} c me t ops m n r l =
    let g = run_sends c me t (drop m (take n ops)) (upto c me t ops m) r in
    (g.more, ap (λ (s : Local T). s.sent r) (ap (λ xs. run c me t xs fresh) (slice_front m n ops l) ∙ run-append c me t (take m ops) (drop m (take n ops)) fresh) ∙ g.is)

pub sent_kept : {T : Type 0} (c : Carrier T) (me : ℕ) (t : ℕ → List (MessageView T)) (ops : List Op) (m n r j : ℕ) → m ≤ n → j < length (filter (sends_to r) (exchanges (take m ops))) → slice_get ((upto c me t ops n).sent r) j ≡ slice_get ((upto c me t ops m).sent r) j
sent_kept c me t ops m n r j l k =
    let g = upto_grows c me t ops m n r l in
    ap (λ xs. slice_get xs j) g.1 ∙ slice_get_append ((upto c me t ops m).sent r) g.0 j (omega (arith, k, upto_sends c me t ops m r))

-- one operation more
pub upto_next : {T : Type 0} (c : Carrier T) (me : ℕ) (t : ℕ → List (MessageView T)) (ops : List Op) (n : ℕ) (op : Op) → slice_get ops n ≡ Some op → upto c me t ops (suc n) ≡ step c me (message_for t (upto c me t ops n).used op) op (upto c me t ops n)
upto_next c me t ops n op h = ap (λ xs. run c me t xs fresh) (take_next_suc ops n op h) ∙ run-append c me t (take n ops) (op ∷ []) fresh

-- the j-th that passes among the first n
pub record Nth (p : Exchange → Bool) (es : List Exchange) (j n : ℕ) : Type 0 where
  pub place : ℕ
  pub exchange : Exchange
  pub at : slice_get es place ≡ Some exchange
  pub passes : p exchange ≡ true
  pub before : passed p place es ≡ j
  pub within : place < n

pub nth : (p : Exchange → Bool) (es : List Exchange) (n j : ℕ) → j < passed p n es → Nth p es j n
nth p [] zero j l = absurd (omega arith)
nth p [] (suc n) j l = absurd (omega arith)
nth p (e ∷ es) zero j l = absurd (omega arith)
nth p (e ∷ es) (suc n) j l = go (p e) refl j l (λ i k. nth p es n i k)
  where
    here : p e ≡ true → (i : ℕ) → i ≡ 0 → Nth p (e ∷ es) i (suc n)
    here h i z = record { place = 0; exchange = e; at = refl; passes = h; before = sym z; within = omega arith }

    go : (b : Bool) → p e ≡ b → (i : ℕ) → i < length (cond b (e ∷ filter p (take n es)) (filter p (take n es))) → ((i : ℕ) → i < passed p n es → Nth p es i n) → Nth p (e ∷ es) i (suc n)
    go true h zero l rec = here h 0 refl
    go true h (suc i) l rec = let r = rec i (omega arith) in record { place = suc r.place; exchange = r.exchange; at = r.at; passes = r.passes; before = rw h (ap suc r.before); within = omega (arith, r.within) }
    go false h i l rec = let r = rec i l in record { place = suc r.place; exchange = r.exchange; at = r.at; passes = r.passes; before = rw h r.before; within = omega (arith, r.within) }

pub nth_passes : (p : Exchange → Bool) (es : List Exchange) (c : ℕ) (e : Exchange) → slice_get es c ≡ Some e → p e ≡ true → slice_get (filter p es) (passed p c es) ≡ Some e
nth_passes p [] c e h t = absurd (cc)
nth_passes p (f ∷ es) zero e h t = let s : f ≡ e = cc in rw s (rw t refl)
nth_passes p (f ∷ es) (suc c) e h t = go (p f) (nth_passes p es c e h t)
  where
    go : (b : Bool) → slice_get (filter p es) (passed p c es) ≡ Some e → slice_get (cond b (f ∷ filter p es) (filter p es)) (length (cond b (f ∷ filter p (take c es)) (filter p (take c es)))) ≡ Some e
    go true r = r
    go false r = r

-- a place in a program that has so many exchanges before it
pub record Cover (ops : List Op) (most n : ℕ) : Type 0 where
  pub place : ℕ
  pub within : place ≤ most
  pub is : exchanges (take place ops) ≡ take n (exchanges ops)

at_most_one : (op : Op) → length (of_op op) ≤ 1
at_most_one (Load tile slot) = omega arith
at_most_one (Blank tile slot) = omega arith
at_most_one (Cut slot at into) = omega arith
at_most_one (Join front back into) = omega arith
at_most_one (Swap e slot) = omega arith
at_most_one (Keep slot) = omega arith

pub cover : (ops : List Op) (most n : ℕ) → n ≤ length (exchanges (take most ops)) → Cover ops most n
cover ops most zero l = record { place = 0; within = omega arith; is = refl }
cover ops zero (suc n) l = absurd (omega arith)
cover [] (suc most) (suc n) l = absurd (omega arith)
cover (op ∷ ops) (suc most) (suc n) l = go (of_op op) refl (at_most_one op) l (λ i k. cover ops most i k)
  where
    go : (xs : List Exchange) → of_op op ≡ xs → length xs ≤ 1 → suc n ≤ length (xs ++ exchanges (take most ops)) → ((i : ℕ) → i ≤ length (exchanges (take most ops)) → Cover ops most i) → Cover (op ∷ ops) (suc most) (suc n)
    go [] e o l rec = let r = rec (suc n) l in record { place = suc r.place; within = omega (arith, r.within); is = rw e r.is }
    go (x ∷ []) e o l rec = let r = rec n (omega arith) in record { place = suc r.place; within = omega (arith, r.within); is = rw e (ap (λ zs. x ∷ zs) r.is) }
    go (x ∷ y ∷ xs) e o l rec = absurd (omega arith)
