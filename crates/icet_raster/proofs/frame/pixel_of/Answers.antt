use Rattle.std.proofs.Common.{rules}
use Rattle.icet_scene_model.specs.Boxes.{pixel_of}
use Rattle.icet_raster.proofs.frame.pixel_of.Goals as goal

pub returns-clause-value : goal.returns-clause-value
unfolding pixel_of
returns-clause-value c = search rules
