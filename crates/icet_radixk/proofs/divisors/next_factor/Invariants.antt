use Rattle.std.proofs.Common.{◌≡◌}
use Rattle.icet_radixk.specs.Factors.{largest_divisor}
use Rattle.icet_radixk.proofs.divisors.next_factor.Given as goal

abbrev pub invariant-loop-divisor : goal.invariant-loop-divisor
invariant-loop-divisor l = largest_divisor l.fn.k l.fn.rest ≡ largest_divisor l.divisor l.fn.rest

abbrev pub decreases-loop-divisor : goal.decreases-loop-divisor
decreases-loop-divisor l = l.divisor
