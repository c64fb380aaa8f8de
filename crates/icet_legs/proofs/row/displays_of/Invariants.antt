use Rattle.std.proofs.Common.{◌≡◌, map, take}
use Rattle.icet_legs.proofs.row.displays_of.Given as goal

abbrev pub invariant-loop-leg : goal.invariant-loop-leg
invariant-loop-leg l = l.all.items ≡ map (λ x. x.display) (take l.leg-index l.legs)
