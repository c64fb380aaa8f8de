use Rattle.std.proofs.Common.{◌≡◌, ◌++◌}
use Rattle.icet_plan.specs.Each.{each}
use Rattle.icet_legs.specs.Group.{group_sends}
use Rattle.icet_legs.specs.Task.{task_team}
use Rattle.icet_radixk.specs.Round.{round_group}
use Rattle.icet_radixk.proofs.round.Round.push_sends.Given as goal

abbrev pub invariant-loop-h : goal.invariant-loop-h
invariant-loop-h l = l.ops.items ≡ l.fn.ops.items ++ each (group_sends (task_team l.fn.task) (round_group l.fn.task l.fn.self) l.fn.self.p) l.h
