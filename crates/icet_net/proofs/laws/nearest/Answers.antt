use Rattle.icet_net.proofs.LeastLeaf.{shows_least, shows_none}
use Rattle.icet_net.proofs.laws.nearest.Goals as goal

pub returns-clause-some : goal.returns-clause-some
returns-clause-some c = shows_least

pub returns-clause-none : goal.returns-clause-none
returns-clause-none c = shows_none
