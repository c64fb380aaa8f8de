use Rattle.std.proofs.Common.{◌≡◌, ◌≤◌, ◌^◌}
use Rattle.icet_bswap.specs.Bswap.{range}
use Rattle.icet_bswap.proofs.halves.range_before.Given as goal

abbrev pub invariant-loop-i : goal.invariant-loop-i
invariant-loop-i l = record {
  own : (l.own.lo, l.own.hi) ≡ range l.fn.pixels l.i l.fn.s;
  order : l.own.lo ≤ l.own.hi;
  wide : l.w ≡ 2 ^ l.i;
}
