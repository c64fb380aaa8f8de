use Rattle.std.proofs.Common.{rules}
use Rattle.icet_pixel.proofs.fragment.Fragment.new.Goals as goal

pub invariant_of-result : goal.invariant_of-result
invariant_of-result c = search rules

pub returns-then-z-le-MAX_DEPTH-clause-exact : goal.returns-then-z-le-MAX_DEPTH-clause-exact
returns-then-z-le-MAX_DEPTH-clause-exact c = search rules

pub returns-else-r-a-clause-exact : goal.returns-else-r-a-clause-exact
returns-else-r-a-clause-exact c = search rules
