use Rattle.std.proofs.Common.{arith}
use Rattle.std.proofs.lemmas.Grind.{common_steps}
use Rattle.icet_ring.proofs.mem_wires.MemWiresWires.close_pair.Goals as goal

pub returns-clause-log : goal.returns-clause-log
returns-clause-log c = grind (arith, common_steps)
