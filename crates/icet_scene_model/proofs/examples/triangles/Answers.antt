use Rattle.std.proofs.Common.{refl}
use Rattle.icet_scene_model.specs.Triangles.{edge_value, weights}
use Rattle.icet_scene_model.specs.Boxes.{pixel_of}
use Rattle.icet_scene_model.proofs.examples.triangles.Goals as goal

pub returns-clause-upper : goal.returns-clause-upper
unfolding edge_value weights pixel_of
returns-clause-upper c = refl

pub returns-clause-lower : goal.returns-clause-lower
unfolding edge_value weights pixel_of
returns-clause-lower c = refl

pub returns-clause-shade : goal.returns-clause-shade
unfolding edge_value weights pixel_of
returns-clause-shade c = refl

pub returns-clause-exchanged : goal.returns-clause-exchanged
unfolding edge_value weights pixel_of
returns-clause-exchanged c = refl

pub returns-clause-frame : goal.returns-clause-frame
unfolding edge_value weights pixel_of
returns-clause-frame c = refl

pub returns-clause-flat : goal.returns-clause-flat
unfolding edge_value weights pixel_of
returns-clause-flat c = refl

pub returns-clause-negative : goal.returns-clause-negative
unfolding edge_value weights pixel_of
returns-clause-negative c = refl
