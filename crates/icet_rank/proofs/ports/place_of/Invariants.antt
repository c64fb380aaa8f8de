use Rattle.std.proofs.Common.{drop}
use Rattle.icet_rank.specs.Moves.{HasPeer}
use Rattle.icet_rank.proofs.ports.place_of.Given as goal

abbrev pub invariant-loop-at : goal.invariant-loop-at
invariant-loop-at g l = HasPeer l.peer (drop l.at l.ports)
