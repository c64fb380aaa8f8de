use Rattle.icet_raster.proofs.Outside.{blank_outside}
use Rattle.icet_raster.proofs.laws.outside_is_blank.Goals as goal

pub returns : goal.returns
returns c = blank_outside
