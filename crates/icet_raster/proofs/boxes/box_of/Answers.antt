use Rattle.std.proofs.Common.{◌≡◌, ℕ, ◌≤◌, List, length, map, take, ap, ◌∙◌, Option, arith}
use Rattle.std.proofs.lemmas.List.{take_all}
use Rattle.std.proofs.lemmas.Grind.{common_steps}
use Rattle.icet_model.specs.declared.names.Rect.{Rect}
use Rattle.icet_scene_model.specs.Boxes.{box}
use Rattle.icet_raster.specs.declared.shape.Shape.{Shape}
use Rattle.icet_raster.specs.Boxes.{IsBoxSoFar}
use Rattle.icet_raster.specs.Shapes.{drawing_of}
use Rattle.icet_raster.proofs.Hulls.{box_none, box_holds, box_least}
use Rattle.icet_raster.proofs.boxes.box_of.Goals as goal

-- the box so far is the box where all shapes were looked at
at_end : (least : Option Rect) (shapes : List Shape) (n : ℕ) → IsBoxSoFar least (map drawing_of (take n shapes)) → length shapes ≤ n → least ≡ box (map drawing_of shapes)
at_end least shapes n far end = far.value ∙ ap (λ s. box (map drawing_of s)) (take_all n shapes end)

pub returns-clause-none : goal.returns-clause-none
returns-clause-none c = box_none c.loop-shape.least (map drawing_of c.args.shapes.now) (at_end c.loop-shape.least c.args.shapes.now c.loop-shape.shape-index c.loop-shape.invariant c.loop-shape-test.false)

pub returns-clause-holds : goal.returns-clause-holds
returns-clause-holds c = box_holds c.loop-shape.least (map drawing_of c.args.shapes.now) (at_end c.loop-shape.least c.args.shapes.now c.loop-shape.shape-index c.loop-shape.invariant c.loop-shape-test.false)

pub returns-clause-least : goal.returns-clause-least
returns-clause-least c = box_least c.loop-shape.least (map drawing_of c.args.shapes.now) (at_end c.loop-shape.least c.args.shapes.now c.loop-shape.shape-index c.loop-shape.invariant c.loop-shape-test.false)

pub loop-shape-preserved : goal.loop-shape-preserved
loop-shape-preserved c = record { value = grind (arith, common_steps); near = grind (arith, common_steps) }
