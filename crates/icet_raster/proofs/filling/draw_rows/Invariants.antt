use Rattle.std.proofs.Common.{◌≡◌, ◌*◌}
use Rattle.icet_scene_model.specs.Raster.{Tri}
use Rattle.icet_model.specs.Tiles.{area_of}
use Rattle.icet_raster.specs.Walks.{walked}
use Rattle.icet_raster.specs.Stretches.{Draws}
use Rattle.icet_raster.proofs.filling.draw_rows.Given as goal

abbrev pub invariant-loop-row : goal.invariant-loop-row
invariant-loop-row l = record {
  width : l.image.w ≡ l.area.w;
  height : l.image.h ≡ l.area.h;
  drawn : Draws l.mode (Tri (walked l.walk)) (area_of l.area) 0 (l.row * l.area.w) l.initial.image.pixels l.image.pixels;
}
