use Rattle.icet_legs.specs.Powers.{floor_log2}
use Rattle.icet_bswap.specs.Bswap.{fold_count}
use Rattle.icet_bswap.proofs.SwapSends.{sends_little}
use Rattle.icet_bswap.proofs.SwapStrategy.{is_swap}
use Rattle.icet_bswap.proofs.laws.sends_little.Goals as goal

pub returns-clause-positions : goal.returns-clause-positions
returns-clause-positions c = λ g shows p team shown l. (sends_little g team (floor_log2 g.n) (fold_count g.n) shows (is_swap g team shows shown) p l).0

pub returns-clause-messages : goal.returns-clause-messages
returns-clause-messages c = λ g shows p team shown l. (sends_little g team (floor_log2 g.n) (fold_count g.n) shows (is_swap g team shows shown) p l).1
