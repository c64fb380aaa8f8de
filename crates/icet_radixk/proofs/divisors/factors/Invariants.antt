use Rattle.icet_radixk.proofs.FactorLists.{StandsFor}
use Rattle.icet_radixk.proofs.divisors.factors.Given as goal

abbrev pub invariant-loop-rest : goal.invariant-loop-rest
invariant-loop-rest l = StandsFor l.fn.k l.fn.n l.rest l.all.items

abbrev pub decreases-loop-rest : goal.decreases-loop-rest
decreases-loop-rest l = l.rest
