use Rattle.icet_multi.proofs.FilledLegs.{legs_begin}
use Rattle.icet_multi.proofs.laws.legs_begin_from_a_slot.Goals as goal

pub returns : goal.returns
returns c = legs_begin
