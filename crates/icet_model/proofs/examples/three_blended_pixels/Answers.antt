use Rattle.std.proofs.Common.{refl}
use Rattle.icet_model.proofs.examples.three_blended_pixels.Goals as goal

pub returns-clause-front_first : goal.returns-clause-front_first
unfolding Rattle.icet_model.specs.declared.bracket.Bracket.TheBlock.hidden-the_row-Bracket-0 denote.Hole.Carrier.hidden
returns-clause-front_first c = refl

pub returns-clause-back_first : goal.returns-clause-back_first
unfolding Rattle.icet_model.specs.declared.bracket.Bracket.TheBlock.hidden-the_row-Bracket-0 denote.Hole.Carrier.hidden
returns-clause-back_first c = refl
