use Rattle.std.proofs.Common.{ap, length, subst, arith, rules}
use Rattle.std.proofs.lemmas.List.{length-map}
use Rattle.icet_model.specs.Exchange.{exchanges}
use Rattle.icet_model.specs.Core.{IsLawful}
use Rattle.icet_plan.specs.Keeps.{CoreView, all_of}
use Rattle.icet_plan.proofs.CoreCounts.{all_finished}
use Rattle.icet_plan.proofs.progress.Core.unfinished.Goals as goal

pub returns-clause-none : goal.returns-clause-none
returns-clause-none c =
    let core = c.args.self.now in
    let lawful = subst (λ (v : CoreView). IsLawful (all_of v) v.cap v.done) c.self.view_is c.self.invariant.lawful in
    let last = c.loop-rank-test.false in
    let ranks = ap (λ (v : CoreView). length v.plan.programs) c.self.view_is in (
      λ t. all_finished (all_of core) core.done core.cap lawful (λ r l. c.loop-rank.invariant r (omega (arith, l, last, ranks, c.ranks-rank-end.ensures.ranks, length-map core.plan.programs exchanges))),
      λ h. search rules,
    )
