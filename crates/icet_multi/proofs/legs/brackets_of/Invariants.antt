use Rattle.std.proofs.Common.{◌≡◌, ◌++◌, map}
use Rattle.std.specs.Vec.Iter.{into_iter_items}
use Rattle.icet_multi.proofs.legs.brackets_of.Given as goal

abbrev pub invariant-loop-leg : goal.invariant-loop-leg
invariant-loop-leg l = l.all.items ++ map (λ leg. leg.bracket) (into_iter_items l.leg-iterator) ≡ map (λ leg. leg.bracket) l.fn.legs.items
