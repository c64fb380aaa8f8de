use Rattle.icet_net.specs.Turns.{MovedBy}
use Rattle.icet_net.proofs.turning.turn_rank.Given as goal

abbrev pub invariant-stepping : goal.invariant-stepping
invariant-stepping g l = MovedBy l.steps l.initial.rank l.rank
