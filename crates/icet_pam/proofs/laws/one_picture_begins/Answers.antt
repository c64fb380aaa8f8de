use Rattle.icet_pam.proofs.FirstPictures.{one_picture}
use Rattle.icet_pam.proofs.laws.one_picture_begins.Goals as goal

pub returns : goal.returns
returns c = one_picture
