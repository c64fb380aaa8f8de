use Rattle.icet_groups.proofs.Grouped.{lawful}
use Rattle.icet_groups.proofs.laws.groups_are_lawful.Goals as goal

pub returns : goal.returns
returns c = lawful
