use Rattle.icet_upgrade.proofs.ImagesStay.{stays}
use Rattle.icet_upgrade.proofs.laws.images_stay.Goals as goal

pub returns : goal.returns
returns c = λ scene rank tile h l m. stays scene rank tile h l m
