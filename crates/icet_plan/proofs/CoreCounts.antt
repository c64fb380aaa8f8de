-- The numbers that a core keeps beside the counters of its ranks.
use Rattle.std.proofs.Common.{◌≡◌, ℕ, zero, suc, ◌+◌, ◌<◌, ◌≤◌, Bool, true, false, cond, take, List, [], ◌∷◌, map, length, get_or, replicate, refl, sym, ap, ◌∙◌, subst, arith, Some, None, inl, inr, ⊎_elim}
use Rattle.std.specs.Prelude.{◌⊎◌, ◌≢◌}
use Rattle.std.proofs.lemmas.List.{length-map, get_or_past}
use Rattle.std.proofs.lemmas.Option.{slice_get_past}
use Rattle.icet_model.specs.declared.exchange.Exchange.{Exchange}
use Rattle.icet_model.specs.declared.exchange.Op.{Op}
use Rattle.icet_model.specs.Exchange.{exchanges}
use Rattle.std.specs.List.{filter}
use Rattle.icet_model.specs.declared.exchange.Kind.TheVariants.{Send, Take}
use Rattle.icet_model.specs.Core.{start, passed, sent, taken, due, CanSwap, IsEnabled, IsLawful, after, AllDone}
use Rattle.icet_model.specs.Exchange.{sends_to, takes_from, of_rank}
use Rattle.icet_plan.specs.Pairs.{PairsView, count_at, Raised}
use Rattle.icet_plan.specs.Keeps.{CoreView, KeepsCore, all_of, gone, CanGo}
use Rattle.icet_plan.proofs.SomeEnabled.{when_sends, when_takes, send_is, take_is, passed_next, one_passes}
use Rattle.icet_plan.proofs.CoreLaws.{Moved, gain, has_moved, event_lawful, some_enabled}

start_is : (all : List (List Exchange)) → replicate (length all) 0 ≡ start all
start_is [] = refl
start_is (es ∷ all) = ap (λ ns. 0 ∷ ns) (start_is all)

-- as many zeros as programs
pub zeros_start : (programs : List (List Op)) → replicate (length programs) 0 ≡ start (map exchanges programs)
zeros_start programs = ap (λ n. replicate n 0) (sym (length-map programs exchanges)) ∙ start_is (map exchanges programs)

filter_most : (p : Exchange → Bool) (es : List Exchange) → length (filter p es) ≤ length es
filter_most p [] = omega arith
filter_most p (e ∷ es) = go (p e) (filter_most p es)
  where
    go : (b : Bool) → length (filter p es) ≤ length es → length (cond b (e ∷ filter p es) (filter p es)) ≤ suc (length es)
    go true h = omega (arith, h)
    go false h = omega (arith, h)

take_most : (n : ℕ) (es : List Exchange) → length (take n es) ≤ n
take_most zero es = omega arith
take_most (suc n) [] = omega arith
take_most (suc n) (e ∷ es) = let h = take_most n es in omega (arith, h)

-- a rank has sent and taken at most as many messages as it has done exchanges
pub passed_most : (p : Exchange → Bool) (n : ℕ) (es : List Exchange) → passed p n es ≤ n
passed_most p n es = omega (arith, filter_most p (take n es), take_most n es)

module _ (core : CoreView) (S T : PairsView) (keeps : KeepsCore core S T) (r : ℕ) (e : Exchange) (is_due : due (all_of core) core.done r ≡ Some e) (free : CanSwap (all_of core) core.cap core.done r e.kind e.peer) where
  can : IsEnabled (all_of core) core.cap core.done r
  can = record { exchange = e; is_due = is_due; free = free }

  went : Moved core.done r
  went = has_moved (all_of core) core.cap core.done keeps.lawful r can

  one_more : (p : Exchange → Bool) → p e ≡ true → passed p (get_or (after core.done r) r 0) (of_rank (all_of core) r) ≡ passed p (get_or core.done r 0) (of_rank (all_of core) r) + 1
  one_more p h = ap (λ n. passed p n (of_rank (all_of core) r)) went.here ∙ (passed_next p (of_rank (all_of core) r) (get_or core.done r 0) e is_due ∙ ap (λ n. passed p (get_or core.done r 0) (of_rank (all_of core) r) + n) (one_passes p e h))

  as_before : (p : Exchange → Bool) (x : ℕ) → (x ≢ r) ⊎ (p e ≢ true) → passed p (get_or (after core.done r) x 0) (of_rank (all_of core) x) ≡ passed p (get_or core.done x 0) (of_rank (all_of core) x)
  as_before p x h = ⊎_elim
      (λ same. same)
      (λ (g : (x ≡ r) × (p e ≡ true) × (passed p (get_or (after core.done r) x 0) (of_rank (all_of core) x) ≡ passed p (get_or core.done x 0) (of_rank (all_of core) x) + 1)). absurd (⊎_elim (λ (n : x ≢ r). n g.0) (λ (n : p e ≢ true). n g.1) h))
      (gain (all_of core) core.done r e is_due went p x)

  same_or_not : (a b c d : ℕ) → ((a ≡ b) × (c ≡ d)) ⊎ ((a ≢ b) ⊎ (c ≢ d))
  same_or_not a b c d = grind arith

  not_take : e.kind ≡ Send → (q : ℕ) → takes_from q e ≢ true
  not_take k q t = let w = (when_takes e q t).kind in absurd (cc)

  not_send : e.kind ≡ Take → (q : ℕ) → sends_to q e ≢ true
  not_send k q t = let w = (when_sends e q t).kind in absurd (cc)

  pub sent_on : e.kind ≡ Send → (new : PairsView) → Raised S new r e.peer → r < length core.plan.programs → e.peer < length core.plan.programs → KeepsCore (gone core r) new T
  sent_on kind new rose lr lp = record {
    is_plan = keeps.is_plan;
    ranks = keeps.ranks;
    cap_low = keeps.cap_low;
    lawful = event_lawful (all_of core) core.cap core.done keeps.lawful r can;
    sent_are = record {
      ranks_are = rose.same_ranks ∙ keeps.sent_are.ranks_are;
      entries = λ q x lq lx. ⊎_elim
          (λ (h : (q ≡ r) × (x ≡ e.peer)).
          subst (λ a. count_at new a x ≡ sent (all_of core) (after core.done r) a x) (sym h.0)
          (subst (λ b. count_at new r b ≡ sent (all_of core) (after core.done r) r b) (sym h.1)
          (rose.here ∙ (ap (λ n. n + 1) (keeps.sent_are.entries r e.peer lr lp) ∙ sym (one_more (sends_to e.peer) (send_is e.kind e.peer kind))))))
          (λ (h : (q ≢ r) ⊎ (x ≢ e.peer)).
          rose.elsewhere q x (rw keeps.sent_are.ranks_are lq) (rw keeps.sent_are.ranks_are lx) h
          ∙ (keeps.sent_are.entries q x lq lx
          ∙ sym (as_before (sends_to x) q (⊎_elim (λ (n : q ≢ r). inl n) (λ (n : x ≢ e.peer). inr (λ t. n (sym (when_sends e x t).peer))) h))))
          (same_or_not q r x e.peer);
    };
    taken_are = record {
      ranks_are = keeps.taken_are.ranks_are;
      entries = λ q x lq lx. keeps.taken_are.entries q x lq lx ∙ sym (as_before (takes_from q) x (inr (not_take kind q)));
    };
  }

  pub took_on : e.kind ≡ Take → (new : PairsView) → Raised T new e.peer r → r < length core.plan.programs → e.peer < length core.plan.programs → KeepsCore (gone core r) S new
  took_on kind new rose lr lp = record {
    is_plan = keeps.is_plan;
    ranks = keeps.ranks;
    cap_low = keeps.cap_low;
    lawful = event_lawful (all_of core) core.cap core.done keeps.lawful r can;
    sent_are = record {
      ranks_are = keeps.sent_are.ranks_are;
      entries = λ q x lq lx. keeps.sent_are.entries q x lq lx ∙ sym (as_before (sends_to x) q (inr (not_send kind x)));
    };
    taken_are = record {
      ranks_are = rose.same_ranks ∙ keeps.taken_are.ranks_are;
      entries = λ q x lq lx. ⊎_elim
          (λ (h : (x ≡ r) × (q ≡ e.peer)).
          subst (λ a. count_at new q a ≡ taken (all_of core) (after core.done r) q a) (sym h.0)
          (subst (λ b. count_at new b r ≡ taken (all_of core) (after core.done r) b r) (sym h.1)
          (rose.here ∙ (ap (λ n. n + 1) (keeps.taken_are.entries e.peer r lp lr) ∙ sym (one_more (takes_from e.peer) (take_is e.kind e.peer kind))))))
          (λ (h : (x ≢ r) ⊎ (q ≢ e.peer)).
          rose.elsewhere q x (rw keeps.taken_are.ranks_are lq) (rw keeps.taken_are.ranks_are lx) (⊎_elim (λ (n : x ≢ r). inr n) (λ (n : q ≢ e.peer). inl n) h)
          ∙ (keeps.taken_are.entries q x lq lx
          ∙ sym (as_before (takes_from q) x (⊎_elim (λ (n : x ≢ r). inl n) (λ (n : q ≢ e.peer). inr (λ t. n (sym (when_takes e q t).peer))) h))))
          (same_or_not x r q e.peer);
    };
  }

  pub send_room : r < length core.plan.programs → e.peer < length core.plan.programs → get_or core.done r 0 + 1 < 4294967296 → count_at S r e.peer + 1 < 4294967296
  send_room lr lp l = omega (arith, l, keeps.sent_are.entries r e.peer lr lp, passed_most (sends_to e.peer) (get_or core.done r 0) (of_rank (all_of core) r))

  pub take_room : r < length core.plan.programs → e.peer < length core.plan.programs → get_or core.done r 0 + 1 < 4294967296 → count_at T e.peer r + 1 < 4294967296
  take_room lr lp l = omega (arith, l, keeps.taken_are.entries e.peer r lp lr, passed_most (takes_from e.peer) (get_or core.done r 0) (of_rank (all_of core) r))

-- all ranks are finished where all of the plan are
pub all_finished : (all : List (List Exchange)) (done : List ℕ) (cap : ℕ) → IsLawful all cap done → ((r : ℕ) → r < length all → get_or done r 0 ≡ length (of_rank all r)) → AllDone all done
all_finished all done cap lawful h r = ⊎_elim
    (λ (l : r < length all). h r l)
    (λ (l : length all ≤ r). let e = ap (λ (es : List Exchange). length es) (get_or_past all r [] l) in let w = lawful.within r in omega (arith, e, w))
    (let s : (r < length all) ⊎ (length all ≤ r) = grind arith in s)

-- a finished rank isn't due, so it isn't enabled
pub done_not_due : (all : List (List Exchange)) (done : List ℕ) (r : ℕ) → get_or done r 0 ≡ length (of_rank all r) → due all done r ≡ None
done_not_due all done r h = slice_get_past (of_rank all r) (get_or done r 0) (omega (arith, h))

-- where no rank is enabled all are finished
pub none_enabled : (core : CoreView) (S T : PairsView) → KeepsCore core S T → ((r : ℕ) → r < length core.plan.programs → CanGo core r → ⊥) → AllDone (all_of core) core.done
none_enabled core S T keeps h r = ⊎_elim
    (λ (l : get_or core.done r 0 < length (of_rank (all_of core) r)).
    let s = some_enabled (all_of core) core.cap core.done keeps.cap_low keeps.is_plan.matched keeps.lawful (record { rank = r; left = l }) in
    absurd (h s.rank (omega (arith, s.ranked, length-map core.plan.programs exchanges)) s.enabled))
    (λ (l : length (of_rank (all_of core) r) ≤ get_or core.done r 0). let w = keeps.lawful.within r in omega (arith, w, l))
    (let s : (get_or core.done r 0 < length (of_rank (all_of core) r)) ⊎ (length (of_rank (all_of core) r) ≤ get_or core.done r 0) = grind arith in s)

pub finished_stands : (core : CoreView) (r : ℕ) → AllDone (all_of core) core.done → CanGo core r → ⊥
finished_stands core r h can = let n = done_not_due (all_of core) core.done r (h r) in let d = can.is_due in absurd (cc)
