use Rattle.std.proofs.Common.{ℕ, take, ◌++◌, codes, Ok}
use Rattle.std.specs.List.{flat_map}
use Rattle.icet_base.specs.PenText.{Puts}
use Rattle.icet_raster.specs.declared.shape.Shape.{Shape}
use Rattle.icet_scene.specs.Lines.{placed_of}
use Rattle.icet_scene_model.specs.Printed.{line_of}
use Rattle.icet_scene_model.specs.Scene.{Draws}
use Rattle.icet_scene_text.proofs.printing.put_shapes.Given as goal

abbrev pub invariant-loop-rank : goal.invariant-loop-rank
invariant-loop-rank g l = Puts g.K.Sink.told l.initial.pen l.pen (Ok tt) (flat_map (λ (shape : ℕ × Shape). line_of (Draws (placed_of shape)) ++ codes "\n") (take l.rank-index l.shapes))
