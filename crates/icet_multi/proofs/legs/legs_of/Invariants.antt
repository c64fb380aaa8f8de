use Rattle.icet_multi.specs.Rules.{strategy_of}
use Rattle.icet_multi.specs.Reduced.{AreGroupLegs}
use Rattle.icet_multi.proofs.legs.legs_of.Given as goal

abbrev pub invariant-loop-t : goal.invariant-loop-t
invariant-loop-t l = AreGroupLegs (strategy_of l.fn.single l.fn.k) l.fn.tiles l.fn.groups l.t l.legs.items
