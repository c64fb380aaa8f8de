use Rattle.std.proofs.Common.{◌≡◌, map, take}
use Rattle.icet_multi.proofs.direct.displays_of.Given as goal

abbrev pub invariant-loop-tile : goal.invariant-loop-tile
invariant-loop-tile l = l.all.items ≡ map (λ x. x.display) (take l.tile-index l.tiles)
