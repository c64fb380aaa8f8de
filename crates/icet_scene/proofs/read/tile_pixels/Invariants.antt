use Rattle.std.proofs.Common.{◌≡◌, ◌≤◌, ◌*◌, take, map}
use Rattle.std.specs.List.{sum_by}
use Rattle.icet_tiles.specs.Layouts.{tile_view}
use Rattle.icet_scene.proofs.read.tile_pixels.Given as goal

abbrev pub invariant-loop-tile : goal.invariant-loop-tile
invariant-loop-tile l = (l.pixels ≡ sum_by (λ tile. tile.area.w * tile.area.h) (map tile_view (take l.tile-index l.tiles))) × (l.pixels ≤ l.tile-index * 268435456)
