use Rattle.std.proofs.Common.{map, take}
use Rattle.icet_raster.specs.Shapes.{drawing_of, IsDrawn}
use Rattle.icet_model.specs.Tiles.{area_of}
use Rattle.icet_raster.proofs.drawing.draw.Given as goal

abbrev pub invariant-loop-shape : goal.invariant-loop-shape
invariant-loop-shape l = IsDrawn l.image l.mode (map drawing_of (take l.shape-index l.shapes)) (area_of l.area)
