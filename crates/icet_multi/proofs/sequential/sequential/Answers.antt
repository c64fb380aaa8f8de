use Rattle.icet_multi.specs.Rules.{strategy_of}
use Rattle.icet_multi.proofs.SequentialPlan.{legs_in_row, sequential_plan}
use Rattle.icet_multi.proofs.sequential.sequential.Goals as goal

pub in_a_row-requires-clause-legs : goal.in_a_row-requires-clause-legs
in_a_row-requires-clause-legs c = legs_in_row (strategy_of c.args.single c.args.k) c.args.order.now c.requires.order c.args.tiles.now c.requires.tiles c.in_ok-legs.legs.items c.in_ok-legs.ensures

pub returns : goal.returns
returns c = sequential_plan (strategy_of c.args.single c.args.k) c.args.order.now c.requires.order c.args.tiles.now c.requires.tiles c.in_ok-legs.legs.items c.in_ok-legs.ensures c.in_a_row.result c.in_a_row.ensures
