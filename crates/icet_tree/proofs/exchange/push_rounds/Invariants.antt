use Rattle.std.proofs.Common.{◌≡◌, ◌++◌}
use Rattle.icet_plan.specs.Each.{each}
use Rattle.icet_legs.specs.Task.{task_team}
use Rattle.icet_tree.specs.Tree.{tree_ops}
use Rattle.icet_tree.proofs.exchange.push_rounds.Given as goal

abbrev pub invariant-loop-i : goal.invariant-loop-i
invariant-loop-i l = l.ops.items ≡ l.fn.ops.items ++ each (λ i. tree_ops (task_team l.fn.task) i l.fn.p) l.i
