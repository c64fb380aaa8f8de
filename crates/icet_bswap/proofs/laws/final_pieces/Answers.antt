use Rattle.icet_legs.specs.Powers.{floor_log2}
use Rattle.icet_bswap.specs.Bswap.{fold_count}
use Rattle.icet_bswap.proofs.FinalPieces.{one_holds}
use Rattle.icet_bswap.proofs.SwapStrategy.{is_swap}
use Rattle.icet_bswap.proofs.laws.final_pieces.Goals as goal

pub returns : goal.returns
returns c = λ g shows team shown. one_holds g team (floor_log2 g.n) (fold_count g.n) shows (is_swap g team shows shown)
