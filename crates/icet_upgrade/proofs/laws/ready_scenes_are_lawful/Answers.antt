use Rattle.icet_upgrade.proofs.ReadyLawful.{ready-lawful}
use Rattle.icet_upgrade.proofs.laws.ready_scenes_are_lawful.Goals as goal

pub returns : goal.returns
returns c = λ scene h. ready-lawful scene h
