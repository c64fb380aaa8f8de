use Rattle.icet_rank.proofs.machine.RankMachine.swap.Goals as goal
use Rattle.icet_rank.proofs.machine.RankMachine.swap.Goals.{in-Send, in-Take}

pub returns-then-moved-clause-pairings : goal.returns-then-moved-clause-pairings
returns-then-moved-clause-pairings g c = elim c.match-exchange.branch [
  | in-Send w ↦ rw w.self-is w.send_due-moved.ensures.pairings
  | in-Take w ↦ rw w.self-is w.take_due-moved.ensures.pairings
]

pub returns-else-moved-clause-pairings : goal.returns-else-moved-clause-pairings
returns-else-moved-clause-pairings g c = elim c.match-exchange.branch [
  | in-Send w ↦ rw w.self-is w.send_due-moved.ensures.pairings
  | in-Take w ↦ rw w.self-is w.take_due-moved.ensures.pairings
]
