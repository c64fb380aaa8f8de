use Rattle.std.proofs.Common.{◌≡◌, ◌≤◌, ◌++◌}
use Rattle.icet_plan.specs.Each.{each}
use Rattle.icet_legs.specs.Group.{group_ops}
use Rattle.icet_legs.specs.Radix.{group_at, range_of, stride}
use Rattle.icet_legs.specs.Task.{task_team}
use Rattle.icet_radixk.specs.Factors.{factor_at}
use Rattle.icet_radixk.proofs.programs.push_rounds.Given as goal

abbrev pub invariant-loop-i : goal.invariant-loop-i
invariant-loop-i l = record {
  grown : l.ops.items ≡ l.fn.ops.items ++ each (λ i. group_ops (task_team l.fn.task) (group_at (task_team l.fn.task) (factor_at l.fn.factors) i) l.fn.p) l.i;
  stride_is : l.stride ≡ stride (factor_at l.fn.factors) l.i;
  own_is : (l.own.lo, l.own.hi) ≡ range_of (factor_at l.fn.factors) l.fn.task.pixels l.i l.fn.p;
  order : l.own.lo ≤ l.own.hi;
}
