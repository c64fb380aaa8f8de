use Rattle.std.proofs.Common.{refl}
use Rattle.icet_scene_model.specs.Boxes.{pixel_of}
use Rattle.icet_scene_model.specs.Ready.{ready_shapes}
use Rattle.icet_scene_model.specs.Triangles.{edge_value, weights}
use Rattle.icet_scene_model.proofs.examples.ready_scenes.Goals as goal

pub returns-clause-halves : goal.returns-clause-halves
unfolding edge_value weights pixel_of ready_shapes
returns-clause-halves c = refl

pub returns-clause-seam : goal.returns-clause-seam
unfolding ready_shapes
returns-clause-seam c = refl

pub returns-clause-runs : goal.returns-clause-runs
returns-clause-runs c = refl
