use Rattle.icet_scene_model.specs.Triangles.{weights}
use Rattle.icet_raster.proofs.CornerWeights.{covered-weights}
use Rattle.icet_raster.proofs.laws.weights_sum_up.Goals as goal

pub returns : goal.returns
unfolding weights
returns c = record { sum = λ t at e. (covered-weights t at e).0; some = λ t at e. (covered-weights t at e).1 }
