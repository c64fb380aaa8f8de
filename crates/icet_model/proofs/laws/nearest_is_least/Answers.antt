use Rattle.icet_model.proofs.Nearest.{nearest_some, nearest_none}
use Rattle.icet_model.proofs.laws.nearest_is_least.Goals as goal

pub returns-clause-some : goal.returns-clause-some
returns-clause-some c = nearest_some

pub returns-clause-none : goal.returns-clause-none
returns-clause-none c = nearest_none
