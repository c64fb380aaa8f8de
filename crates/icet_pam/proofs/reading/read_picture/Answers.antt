use Rattle.std.proofs.Common.{sym}
use Rattle.icet_pam.proofs.Headers.{heading_sound}
use Rattle.icet_pam.proofs.FirstPictures.{no_header}
use Rattle.icet_pam.proofs.reading.read_picture.Goals as goal

pub returns-in-None-clause-refused : goal.returns-in-None-clause-refused
returns-in-None-clause-refused c = λ refused. no_header c.args.bytes.now c.in-None.ensures

pub picture_behind-requires : goal.picture_behind-requires
picture_behind-requires c = heading_sound c.in-Some.shape c.args.bytes.now c.in-Some.rest.now (sym c.in-Some.ensures)
