use Rattle.std.proofs.Common.{◌≡◌, ℕ, ◌<◌, ◌≤◌, true, false, cond, length, get_or, refl, sym, ap, ◌∙◌, arith, lt-ltb, le-ltb, nat_lt, Option, Some, None}
use Rattle.std.proofs.lemmas.List.{length-map}
use Rattle.std.proofs.lemmas.Option.{slice_get_past, slice_get_cases}
use Rattle.icet_model.specs.declared.exchange.Kind.{Kind}
use Rattle.icet_model.specs.declared.exchange.Kind.TheVariants.{Send, Take}
use Rattle.icet_model.specs.declared.exchange.Exchange.{Exchange}
use Rattle.icet_model.specs.Exchange.{of_rank, exchanges}
use Rattle.icet_model.specs.Core.{CanSwap, due}
use Rattle.icet_model.specs.Replay.{Try, after_try, Moved, Stalled, Done, Absent, allows, try_word, try_of}
use Rattle.icet_plan.specs.Keeps.{CoreView, CanGo, all_of}
use Rattle.icet_jobs.specs.Replays.{tried, try_of_rank}
use Rattle.icet_jobs.proofs.replay.go_on.Goals as goal

ranked : (core : CoreView) (r : ℕ) → r < length core.plan.programs → nat_lt r (length (all_of core)) ≡ true
ranked core r l = lt-ltb _ _ (omega (arith, l, length-map core.plan.programs exchanges))

absent : (core : CoreView) (r : ℕ) → length core.plan.programs ≤ r → try_of_rank core r ≡ Absent
absent core r l = ap (λ b. cond b (try_of (all_of core) core.cap core.done r (due (all_of core) core.done r)) Absent) (le-ltb _ _ (omega (arith, l, length-map core.plan.programs exchanges)))

with_due : (core : CoreView) (r : ℕ) (next : Option Exchange) → r < length core.plan.programs → due (all_of core) core.done r ≡ next → try_of_rank core r ≡ try_of (all_of core) core.cap core.done r next
with_due core r next l is = ap (λ b. cond b (try_of (all_of core) core.cap core.done r (due (all_of core) core.done r)) Absent) (ranked core r l) ∙ ap (try_of (all_of core) core.cap core.done r) is

can : (core : CoreView) (r : ℕ) (kind : Kind) (peer : ℕ) → CanSwap (all_of core) core.cap core.done r kind peer → allows (all_of core) core.cap core.done r kind peer ≡ true
can core r Send peer l = lt-ltb _ _ l
can core r Take peer l = lt-ltb _ _ l

moved : (core : CoreView) (r : ℕ) → r < length core.plan.programs → CanGo core r → try_of_rank core r ≡ Moved
moved core r l go = with_due core r (Some go.exchange) l go.is_due ∙ ap (λ b. cond b Moved Stalled) (can core r go.exchange.kind go.exchange.peer go.free)

done : (core : CoreView) (r : ℕ) → r < length core.plan.programs → get_or core.done r 0 ≡ length (of_rank (all_of core) r) → try_of_rank core r ≡ Done
done core r l all = with_due core r None l (slice_get_past (of_rank (all_of core) r) (get_or core.done r 0) (omega (arith, all)))

cannot : (core : CoreView) (r : ℕ) (kind : Kind) (peer : ℕ) → (CanSwap (all_of core) core.cap core.done r kind peer → ⊥) → allows (all_of core) core.cap core.done r kind peer ≡ false
cannot core r Send peer barred = le-ltb _ _ (omega (arith, barred))
cannot core r Take peer barred = le-ltb _ _ (omega (arith, barred))

stalled : (core : CoreView) (r : ℕ) → r < length core.plan.programs → get_or core.done r 0 ≤ length (of_rank (all_of core) r) → (get_or core.done r 0 ≡ length (of_rank (all_of core) r) → ⊥) → (CanGo core r → ⊥) → try_of_rank core r ≡ Stalled
stalled core r l within left barred = at (due (all_of core) core.done r) refl where
  at : (next : Option Exchange) → due (all_of core) core.done r ≡ next → try_of_rank core r ≡ Stalled
  at None e = grind (arith, e, slice_get_cases (of_rank (all_of core) r) (get_or core.done r 0), within, left)
  at (Some x) e = with_due core r (Some x) l e ∙ ap (λ b. cond b Moved Stalled) (cannot core r x.kind x.peer (λ s. barred (record { exchange = x; is_due = e; free = s })))

tried_is : (core : CoreView) (r : ℕ) (t : Try) → try_of_rank core r ≡ t → tried core r ≡ record { plan = core.plan; cap = core.cap; done = after_try core.done r t }
tried_is core r t e = ap (λ t. record { plan = core.plan; cap = core.cap; done = after_try core.done r t }) e

pub returns-then-rank-ranks-clause-word : goal.returns-then-rank-ranks-clause-word
returns-then-rank-ranks-clause-word c = ap try_word (sym (absent c.args.core.now c.args.rank (rw c.ranks.ensures.ranks at c.if-rank-ranks.true)))

pub returns-then-rank-ranks-clause-core : goal.returns-then-rank-ranks-clause-core
returns-then-rank-ranks-clause-core c = sym (tried_is c.args.core.now c.args.rank Absent (absent c.args.core.now c.args.rank (rw c.ranks.ensures.ranks at c.if-rank-ranks.true)))

in-Moved : (c : goal.After-result-in-Moved-2-1) → try_of_rank c.args.core.now c.args.rank ≡ Moved
in-Moved c = moved c.args.core.now c.args.rank (rw c.ranks.ensures.ranks at c.if-rank-ranks.false) (c.in-Moved.ensures.moved.0 refl)

in-Stalled : (c : goal.After-result-in-Stalled-2-1) → try_of_rank c.args.core.now c.args.rank ≡ Stalled
in-Stalled c = stalled c.args.core.now c.args.rank (rw c.ranks.ensures.ranks at c.if-rank-ranks.false) (c.ranks.ensures.lawful.within c.args.rank) (λ e. grind (arith, c.in-Stalled.ensures.done.1 e)) (λ go. grind (arith, c.in-Stalled.ensures.moved.1 go))

in-Done : (c : goal.After-result-in-Done-2-1) → try_of_rank c.args.core.now c.args.rank ≡ Done
in-Done c = done c.args.core.now c.args.rank (rw c.ranks.ensures.ranks at c.if-rank-ranks.false) (c.in-Done.ensures.done.0 refl)

pub returns-in-Moved-clause-word : goal.returns-in-Moved-clause-word
returns-in-Moved-clause-word c = ap try_word (sym (in-Moved c))

pub returns-in-Moved-clause-core : goal.returns-in-Moved-clause-core
returns-in-Moved-clause-core c = c.in-Moved.ensures.after refl ∙ sym (tried_is c.args.core.now c.args.rank Moved (in-Moved c))

pub returns-in-Stalled-clause-word : goal.returns-in-Stalled-clause-word
returns-in-Stalled-clause-word c = ap try_word (sym (in-Stalled c))

pub returns-in-Stalled-clause-core : goal.returns-in-Stalled-clause-core
returns-in-Stalled-clause-core c = c.in-Stalled.ensures.same (λ e. grind (arith, e)) ∙ sym (tried_is c.args.core.now c.args.rank Stalled (in-Stalled c))

pub returns-in-Done-clause-word : goal.returns-in-Done-clause-word
returns-in-Done-clause-word c = ap try_word (sym (in-Done c))

pub returns-in-Done-clause-core : goal.returns-in-Done-clause-core
returns-in-Done-clause-core c = c.in-Done.ensures.same (λ e. grind (arith, e)) ∙ sym (tried_is c.args.core.now c.args.rank Done (in-Done c))
