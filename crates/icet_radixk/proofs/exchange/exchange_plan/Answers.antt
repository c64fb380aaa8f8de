use Rattle.std.proofs.Common.{◌∙◌, ap}
use Rattle.icet_radixk.specs.Factors.{factors}
use Rattle.icet_radixk.proofs.RadixLegs.{is_split_by, leg_done}
use Rattle.icet_radixk.proofs.exchange.exchange_plan.Goals as goal

pub leg_of-requires : goal.leg_of-requires
leg_of-requires c = is_split_by c.of-task.result c.args.k c.deref.result.now c.count.ensures.task (c.deref.ensures.value ∙ (c.in_ok-factors.ensures.factors ∙ ap (factors c.args.k) c.count.ensures.count))

pub returns : goal.returns
returns c = leg_done c.args.participants.now c.args.leaves.now c.args.tile c.args.pixels c.args.display c.args.first_round c.args.k c.of-task.result c.deref.result.now c.count.ensures.task c.of-task.ensures (c.deref.ensures.value ∙ (c.in_ok-factors.ensures.factors ∙ ap (factors c.args.k) c.count.ensures.count)) c.requires.distinct c.requires.leaves c.leg_of.result c.leg_of.ensures.programs c.leg_of.ensures.bracket c.leg_of.ensures.rounds
