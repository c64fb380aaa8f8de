use Rattle.icet_upgrade.proofs.SpansApart.{scene_apart}
use Rattle.icet_upgrade.proofs.laws.runs_are_maximal.Goals as goal

pub returns : goal.returns
returns c = λ scene. scene_apart scene
