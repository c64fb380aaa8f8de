use Rattle.std.proofs.Common.{arith}
use Rattle.std.proofs.lemmas.Grind.{common_steps}
use Rattle.icet_ring.proofs.mem_ports.MemOutbox.has_more.Goals as goal

pub returns : goal.returns
returns c = grind (arith, common_steps)
