use Rattle.icet_raster.proofs.Outside.{drawn_in_box}
use Rattle.icet_raster.proofs.laws.drawn_lies_in_the_box.Goals as goal

pub returns : goal.returns
returns c = drawn_in_box
