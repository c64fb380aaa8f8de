use Rattle.std.proofs.Common.{◌≡◌, ◌≤◌}
use Rattle.icet_legs.specs.Radix.{range_of, stride}
use Rattle.icet_radixk.specs.Factors.{factor_at}
use Rattle.icet_radixk.proofs.programs.final_of.Given as goal

abbrev pub invariant-loop-i : goal.invariant-loop-i
invariant-loop-i l = record {
  stride_is : l.stride ≡ stride (factor_at l.fn.factors) l.i;
  own_is : (l.own.lo, l.own.hi) ≡ range_of (factor_at l.fn.factors) l.fn.task.pixels l.i l.fn.p;
  order : l.own.lo ≤ l.own.hi;
}
