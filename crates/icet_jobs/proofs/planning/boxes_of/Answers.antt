use Rattle.std.proofs.Common.{arith}
use Rattle.std.proofs.lemmas.Grind.{common_steps}
use Rattle.icet_jobs.proofs.planning.boxes_of.Goals as goal

pub loop-rank-init : goal.loop-rank-init
loop-rank-init c = grind (arith, common_steps)
