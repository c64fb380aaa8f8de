use Rattle.icet_net.proofs.ClosePorts.{Seeks}
use Rattle.icet_net.proofs.closing.last_place.Given as goal

abbrev pub invariant-seeking : goal.invariant-seeking
invariant-seeking g l = Seeks l.at l.peer l.ports

abbrev pub decreases-seeking : goal.decreases-seeking
decreases-seeking g l = l.at
