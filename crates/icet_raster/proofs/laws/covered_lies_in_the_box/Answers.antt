use Rattle.icet_raster.proofs.CoveredInFrame.{covered_in_box}
use Rattle.icet_raster.proofs.laws.covered_lies_in_the_box.Goals as goal

pub returns : goal.returns
returns c = covered_in_box
