use Rattle.icet_radixk.proofs.FinalPieces.{one_holds}
use Rattle.icet_radixk.proofs.laws.final_pieces.Goals as goal

pub returns : goal.returns
returns c = λ k g shows shown x l. one_holds k g shows shown x l
