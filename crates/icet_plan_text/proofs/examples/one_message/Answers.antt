use Rattle.std.proofs.Common.{refl}
use Rattle.std.specs.Fmt.{digits}
use Rattle.icet_plan_text.proofs.examples.one_message.Goals as goal

pub returns-clause-traffic : goal.returns-clause-traffic
unfolding digits
returns-clause-traffic c = refl

pub returns-clause-plan : goal.returns-clause-plan
unfolding digits Rattle.icet_model.specs.declared.bracket.Bracket.TheBlock.hidden-the_row-Bracket-0 denote.Hole.Carrier.hidden
returns-clause-plan c = refl

pub returns-clause-brackets : goal.returns-clause-brackets
unfolding digits Rattle.icet_model.specs.declared.bracket.Bracket.TheBlock.hidden-the_row-Bracket-0 denote.Hole.Carrier.hidden
returns-clause-brackets c = refl
