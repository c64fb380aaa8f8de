use Rattle.std.proofs.Common.{◌≡◌, map, take}
use Rattle.std.specs.Prelude.{All}
use Rattle.icet_raster.specs.Shapes.{drawing_of}
use Rattle.icet_upgrade.specs.TileImages.{IsTileImage, Shows}
use Rattle.icet_upgrade.specs.declared.tile_image.TileImage.{TileImage}
use Rattle.icet_upgrade.proofs.ready.draw_tiles.Given as goal

abbrev pub invariant-loop-area : goal.invariant-loop-area
invariant-loop-area l = (map (λ (tile : TileImage). tile.area) l.tiles.items ≡ take l.area-index l.areas) × All IsTileImage l.tiles.items × All (Shows l.mode (map drawing_of l.shapes)) l.tiles.items
