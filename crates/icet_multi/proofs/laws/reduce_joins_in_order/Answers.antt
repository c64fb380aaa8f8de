use Rattle.icet_multi.proofs.ReduceLeaves.{reduce_joins}
use Rattle.icet_multi.proofs.laws.reduce_joins_in_order.Goals as goal

pub returns : goal.returns
returns c = reduce_joins
