use Rattle.std.proofs.Common.{subst, sym, ◌<◌, length}
use Rattle.icet_multi.proofs.SequentialPlan.{stands_in}
use Rattle.icet_multi.proofs.sequential.leg_of.Goals as goal

pub exchange_plan-requires-clause-display : goal.exchange_plan-requires-clause-display
exchange_plan-requires-clause-display c = stands_in c.args.order.now c.requires.order c.display.result (subst (λ d. d < length c.args.order.now) (sym c.display.ensures) c.requires.tile.display)
