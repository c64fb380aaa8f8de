use Rattle.std.proofs.Common.{◌≡◌, map, take, length}
use Rattle.icet_raster.specs.Shapes.{drawing_of}
use Rattle.icet_jobs.specs.Composites.{pieces_from}
use Rattle.icet_jobs.proofs.imaging.image_of.Given as goal

abbrev pub invariant-loop-t : goal.invariant-loop-t
invariant-loop-t l = (l.parts.items ≡ pieces_from l.strands 0 l.scene.mode (map drawing_of l.shapes.items) (take l.t l.scene.tiles)) × (length l.parts.items ≡ l.t)
