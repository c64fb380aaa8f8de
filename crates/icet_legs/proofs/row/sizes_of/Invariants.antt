use Rattle.std.proofs.Common.{◌≡◌, map, take}
use Rattle.icet_legs.proofs.row.sizes_of.Given as goal

abbrev pub invariant-loop-leg : goal.invariant-loop-leg
invariant-loop-leg l = l.all.items ≡ map (λ x. x.size) (take l.leg-index l.legs)
