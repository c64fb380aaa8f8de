use Rattle.std.proofs.Common.{refl}
use Rattle.icet_model.proofs.examples.several_ranks.Goals as goal

pub returns-clause-tie : goal.returns-clause-tie
returns-clause-tie c = refl

pub returns-clause-nearest : goal.returns-clause-nearest
returns-clause-nearest c = refl

pub returns-clause-last_tie : goal.returns-clause-last_tie
returns-clause-last_tie c = refl
