use Rattle.std.proofs.Common.{◌≡◌, ◌-◌, ◌≤◌, map}
use Rattle.icet_model.specs.Tiles.{area_of}
use Rattle.icet_scene_model.specs.Raster.{full_image}
use Rattle.icet_raster.specs.Shapes.{drawing_of}
use Rattle.icet_images.specs.Images.{rows_area}
use Rattle.icet_images.proofs.drawn.drawn_piece.Given as goal

abbrev pub invariant-bands : goal.invariant-bands
invariant-bands l = record {
  within : l.top ≤ l.area.h;
  pixels : l.pixels ≡ full_image l.mode (map drawing_of l.shapes) (rows_area (area_of l.area) 0 l.top);
}

abbrev pub decreases-bands : goal.decreases-bands
decreases-bands l = l.area.h - l.top
