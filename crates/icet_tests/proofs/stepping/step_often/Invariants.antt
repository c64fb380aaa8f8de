use Rattle.icet_net.specs.Ranks.{GoesOn}
use Rattle.icet_tests.proofs.stepping.step_often.Given as goal

abbrev pub invariant-stepping : goal.invariant-stepping
invariant-stepping g l = GoesOn l.initial.rank l.rank
