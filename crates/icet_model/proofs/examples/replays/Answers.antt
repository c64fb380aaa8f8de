use Rattle.std.proofs.Common.{refl}
use Rattle.std.specs.Fmt.{digits}
use Rattle.icet_model.proofs.examples.replays.Goals as goal

pub returns-clause-in_order : goal.returns-clause-in_order
unfolding digits
returns-clause-in_order c = refl

pub returns-clause-cut_short : goal.returns-clause-cut_short
unfolding digits
returns-clause-cut_short c = refl

pub returns-clause-several_rounds : goal.returns-clause-several_rounds
unfolding digits
returns-clause-several_rounds c = refl
