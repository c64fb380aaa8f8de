use Rattle.icet_legs.specs.Task.{task_team}
use Rattle.icet_legs.proofs.EachMore.{each_pushed}
use Rattle.icet_tree.specs.Tree.{tree_ops}
use Rattle.icet_tree.proofs.exchange.push_rounds.Goals as goal

pub loop-i-preserved : goal.loop-i-preserved
loop-i-preserved c = each_pushed (λ i. tree_ops (task_team c.args.task.now) i c.args.p) c.loop-i.i c.args.ops.now.items _ _ c.loop-i.invariant c.in_ok-push_round.ensures
