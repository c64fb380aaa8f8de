use Rattle.std.proofs.Common.{arith}
use Rattle.std.proofs.lemmas.Grind.{common_steps}
use Rattle.icet_net.proofs.driving.are_done.Goals as goal

pub looking-init : goal.looking-init
looking-init g c = grind (arith, common_steps)
