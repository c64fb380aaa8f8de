use Rattle.std.proofs.Common.{◌≡◌, ◌+◌, ◌*◌}
use Rattle.icet_scene_model.specs.Raster.{Span}
use Rattle.icet_model.specs.Tiles.{area_of}
use Rattle.icet_raster.specs.Stretches.{Draws}
use Rattle.icet_raster.proofs.spans.draw_columns.Given as goal

abbrev pub invariant-loop-column : goal.invariant-loop-column
invariant-loop-column l = record {
  width : l.image.w ≡ l.fn.area.w;
  height : l.image.h ≡ l.fn.area.h;
  drawn : Draws l.mode (Span l.x ((area_of l.fn.area).y + l.row) l.paints) (area_of l.fn.area) 0 (l.row * l.fn.area.w + l.column) l.initial.image.pixels l.image.pixels;
}
