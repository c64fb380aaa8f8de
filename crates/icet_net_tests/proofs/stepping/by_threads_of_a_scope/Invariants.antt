use Rattle.icet_net.specs.Ranks.{EachRank, GoesOn}
use Rattle.icet_net_tests.proofs.stepping.by_threads_of_a_scope.Given as goal

abbrev pub invariant-moving : goal.invariant-moving
invariant-moving g l = EachRank GoesOn l.initial.ranks.items l.ranks.items
