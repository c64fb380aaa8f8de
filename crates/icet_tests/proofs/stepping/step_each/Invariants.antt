use Rattle.icet_net.specs.Ranks.{GoesOn}
use Rattle.icet_workers.specs.Shares.{DoneTo}
use Rattle.icet_tests.proofs.stepping.step_each.Given as goal

abbrev pub invariant-stepping : goal.invariant-stepping
invariant-stepping g l = DoneTo GoesOn l.i l.initial.ranks l.ranks
