use Rattle.icet_multi.specs.Rules.{strategy_of}
use Rattle.icet_multi.proofs.SequentialPlan.{HasLegs}
use Rattle.icet_multi.proofs.sequential.legs_of.Given as goal

abbrev pub invariant-loop-t : goal.invariant-loop-t
invariant-loop-t l = HasLegs (strategy_of l.fn.single l.fn.k) l.fn.order l.fn.tiles l.t l.first l.legs.items
