use Rattle.icet_multi.proofs.RulesJoin.{rules_join_in_order}
use Rattle.icet_multi.proofs.laws.joins_in_order.Goals as goal

pub returns : goal.returns
returns c = rules_join_in_order
