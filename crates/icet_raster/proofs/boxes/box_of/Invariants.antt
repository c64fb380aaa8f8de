use Rattle.std.proofs.Common.{map, take}
use Rattle.icet_raster.specs.Boxes.{IsBoxSoFar}
use Rattle.icet_raster.specs.Shapes.{drawing_of}
use Rattle.icet_raster.proofs.boxes.box_of.Given as goal

abbrev pub invariant-loop-shape : goal.invariant-loop-shape
invariant-loop-shape l = IsBoxSoFar l.least (map drawing_of (take l.shape-index l.shapes))
