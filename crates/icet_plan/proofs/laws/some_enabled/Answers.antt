use Rattle.icet_plan.proofs.CoreLaws.{some_enabled}
use Rattle.icet_plan.proofs.laws.some_enabled.Goals as goal

pub returns : goal.returns
returns c = some_enabled
