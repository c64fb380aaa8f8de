use Rattle.std.proofs.Common.{refl}
use Rattle.icet_model.proofs.examples.brackets.Goals as goal

pub returns-clause-in_order : goal.returns-clause-in_order
unfolding Rattle.icet_model.specs.declared.bracket.Bracket.TheBlock.hidden-the_row-Bracket-0 denote.Hole.Carrier.hidden
returns-clause-in_order c = refl

pub returns-clause-front : goal.returns-clause-front
unfolding Rattle.icet_model.specs.declared.bracket.Bracket.TheBlock.hidden-the_row-Bracket-0 denote.Hole.Carrier.hidden
returns-clause-front c = refl

pub returns-clause-nearer : goal.returns-clause-nearer
unfolding Rattle.icet_model.specs.declared.bracket.Bracket.TheBlock.hidden-the_row-Bracket-0 denote.Hole.Carrier.hidden
returns-clause-nearer c = refl

pub returns-clause-three : goal.returns-clause-three
returns-clause-three c = refl
