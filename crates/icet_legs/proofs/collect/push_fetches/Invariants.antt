use Rattle.std.proofs.Common.{◌≡◌, ◌+◌, ◌++◌}
use Rattle.icet_plan.specs.Each.{each}
use Rattle.icet_legs.specs.Collect.{fetch_ops, final_over}
use Rattle.icet_legs.specs.Task.{task_team}
use Rattle.icet_legs.proofs.collect.push_fetches.Given as goal

abbrev pub invariant-loop-b : goal.invariant-loop-b
invariant-loop-b l = l.ops.items ≡ l.fn.ops.items ++ each (fetch_ops (task_team l.fn.task) (final_over l.fn.finals (l.fn.task.first + l.fn.round) l.fn.task.shows)) l.b
