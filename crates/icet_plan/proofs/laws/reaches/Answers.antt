use Rattle.icet_plan.proofs.CoreLaws.{reaches}
use Rattle.icet_plan.proofs.laws.reaches.Goals as goal

pub returns : goal.returns
returns c = reaches
