use Rattle.icet_raster.proofs.FullImages.{drawn-none}
use Rattle.icet_model.specs.Tiles.{area_of}
use Rattle.icet_raster.proofs.drawing.draw.Goals as goal

pub loop-shape-init : goal.loop-shape-init
loop-shape-init c = drawn-none c.in_ok-image.image c.args.mode (area_of c.args.area) c.in_ok-image.ensures
