use Rattle.icet_pam.proofs.FirstPictures.{drawn_again}
use Rattle.icet_pam.proofs.laws.pictures_are_read_again.Goals as goal

pub returns : goal.returns
returns c = drawn_again
