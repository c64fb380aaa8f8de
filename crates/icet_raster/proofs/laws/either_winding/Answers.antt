use Rattle.icet_raster.proofs.EdgeSteps.{gives-exchanged}
use Rattle.icet_raster.proofs.laws.either_winding.Goals as goal

pub returns : goal.returns
returns c = λ one other third x y. gives-exchanged (record { a = one; b = other; c = third }) x y
