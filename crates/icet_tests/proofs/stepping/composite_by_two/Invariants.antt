use Rattle.std.proofs.Common.{◌≤◌}
use Rattle.icet_net.specs.Ranks.{EachRank, GoesOn}
use Rattle.icet_tests.proofs.stepping.composite_by_two.Given as goal

abbrev pub invariant-turning : goal.invariant-turning
invariant-turning g l = EachRank GoesOn l.initial.ranks.items l.ranks.items
