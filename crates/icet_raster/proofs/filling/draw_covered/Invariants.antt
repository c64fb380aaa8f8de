use Rattle.std.proofs.Common.{◌≡◌, ◌+◌, ◌*◌}
use Rattle.icet_scene_model.specs.Raster.{Tri}
use Rattle.icet_model.specs.Tiles.{area_of}
use Rattle.icet_raster.specs.Shares.{AreShadesAt}
use Rattle.icet_raster.specs.Walks.{walked}
use Rattle.icet_raster.specs.Stretches.{Draws}
use Rattle.icet_raster.proofs.filling.draw_covered.Given as goal

abbrev pub invariant-loop-column : goal.invariant-loop-column
invariant-loop-column l = record {
  width : l.image.w ≡ l.area.w;
  height : l.image.h ≡ l.area.h;
  shades : AreShadesAt l.walk (l.left + l.column) l.y l.shades;
  drawn : Draws l.mode (Tri (walked l.walk)) (area_of l.area) (l.row * l.area.w + l.fn.start.column) (l.row * l.area.w + l.column) l.initial.image.pixels l.image.pixels;
}
