use Rattle.std.proofs.Common.{◌≡◌}
use Rattle.icet_radixk.specs.Factors.{factor_at}
use Rattle.icet_radixk.specs.Radixk.{radix_fold}
use Rattle.icet_radixk.proofs.folds.fold_by_factors.Given as goal

abbrev pub invariant-loop-i : goal.invariant-loop-i
invariant-loop-i l = l.parts.items ≡ radix_fold (factor_at l.fn.factors) l.i l.fn.leaves.items
