use Rattle.std.proofs.Common.{◌≡◌, ◌+◌, ◌-◌, ◌*◌, ◌≤◌}
use Rattle.icet_scene_model.specs.Raster.{Tri}
use Rattle.icet_model.specs.Tiles.{area_of}
use Rattle.icet_raster.specs.Walks.{AreValues, walked}
use Rattle.icet_raster.specs.Stretches.{Draws}
use Rattle.icet_raster.proofs.filling.draw_row.Given as goal

abbrev pub invariant-stretches : goal.invariant-stretches
invariant-stretches l = record {
  width : l.image.w ≡ l.area.w;
  height : l.image.h ≡ l.area.h;
  from : l.fn.part.from ≤ l.reached.column;
  to : l.reached.column ≤ l.fn.part.to;
  values : AreValues l.walk (l.left + l.reached.column) l.y l.reached.values;
  drawn : Draws l.mode (Tri (walked l.walk)) (area_of l.area) (l.row * l.area.w + l.fn.part.from) (l.row * l.area.w + l.reached.column) l.initial.image.pixels l.image.pixels;
}

abbrev pub decreases-stretches : goal.decreases-stretches
decreases-stretches l = l.fn.part.to - l.reached.column
