use Rattle.std.proofs.Common.{◌<◌, ℕ, sym, ap, length, subst, arith, rules}
use Rattle.icet_model.specs.Core.{AllDone}
use Rattle.icet_plan.specs.Keeps.{CoreView, CanGo, all_of}
use Rattle.icet_plan.proofs.CoreCounts.{none_enabled}
use Rattle.icet_plan.proofs.progress.Core.next_enabled.Goals as goal

pub returns-clause-none : goal.returns-clause-none
returns-clause-none c =
    let last = c.loop-rank-test.false in
    let ranks = ap (λ (v : CoreView). length v.plan.programs) c.self.view_is in
    let none = subst (λ (v : CoreView). (r : ℕ) → r < length v.plan.programs → CanGo v r → ⊥) (sym c.self.view_is)
    (λ r l. c.loop-rank.invariant r (omega (arith, l, last, ranks, c.ranks-rank-end.ensures.ranks))) in
    let done = none_enabled _ _ _ c.self.invariant none in
    (λ t. subst (λ (v : CoreView). AllDone (all_of v) v.done) c.self.view_is done, λ h. search rules)
