use Rattle.icet_rank.proofs.LocalWork.{cut_is}
use Rattle.icet_rank.proofs.slots.cut_slot.Goals as goal

pub returns-clause-ok : goal.returns-clause-ok
returns-clause-ok c = λ mode images. cut_is mode images c.args.slots.now c.args.slot c.args.at c.args.into c.index-slots-slot.result c.cut_piece.new.slot c.in_ok-upper.upper c.requires.slot c.requires.into c.requires.fits c.in_ok-upper.ensures.ok
