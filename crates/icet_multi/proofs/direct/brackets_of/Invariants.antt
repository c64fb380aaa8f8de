use Rattle.std.proofs.Common.{◌≡◌, map, take}
use Rattle.icet_multi.specs.Direct.{tile_bracket}
use Rattle.icet_multi.proofs.direct.brackets_of.Given as goal

abbrev pub invariant-loop-tile : goal.invariant-loop-tile
invariant-loop-tile l = l.all.items ≡ map tile_bracket (take l.tile-index l.tiles)
