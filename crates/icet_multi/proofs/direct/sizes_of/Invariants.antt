use Rattle.std.proofs.Common.{◌≡◌, map, take}
use Rattle.icet_multi.proofs.direct.sizes_of.Given as goal

abbrev pub invariant-loop-tile : goal.invariant-loop-tile
invariant-loop-tile l = l.all.items ≡ map (λ x. x.size) (take l.tile-index l.tiles)
