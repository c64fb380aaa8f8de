use Rattle.std.proofs.Common.{◌≡◌, ◌≤◌, ◌^◌, ◌++◌}
use Rattle.icet_plan.specs.Each.{each}
use Rattle.icet_legs.specs.Task.{task_team}
use Rattle.icet_bswap.specs.Bswap.{range, swap_ops, swappers}
use Rattle.icet_bswap.proofs.programs.push_swaps.Given as goal

abbrev pub invariant-loop-i : goal.invariant-loop-i
invariant-loop-i l = record {
  grown : l.ops.items ≡ l.fn.ops.items ++ each (λ i. swap_ops (swappers (task_team l.fn.task) l.fn.split.e) i l.fn.s) l.i;
  own : (l.own.lo, l.own.hi) ≡ range l.fn.task.pixels l.i l.fn.s;
  order : l.own.lo ≤ l.own.hi;
  wide : l.w ≡ 2 ^ l.i;
}
