use Rattle.std.proofs.Common.{refl}
use Rattle.std.specs.Fmt.{digits}
use Rattle.icet_scene_model.proofs.examples.pictures.Goals as goal

pub returns-clause-header : goal.returns-clause-header
unfolding digits
returns-clause-header c = refl

pub returns-clause-reds_from_left : goal.returns-clause-reds_from_left
unfolding Rattle.icet_model.specs.declared.bracket.Bracket.TheBlock.hidden-the_row-Bracket-0 denote.Hole.Carrier.hidden
returns-clause-reds_from_left c = refl

pub returns-clause-reds_in_pairs : goal.returns-clause-reds_in_pairs
unfolding Rattle.icet_model.specs.declared.bracket.Bracket.TheBlock.hidden-the_row-Bracket-0 denote.Hole.Carrier.hidden
returns-clause-reds_in_pairs c = refl
