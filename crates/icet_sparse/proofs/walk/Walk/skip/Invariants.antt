use Rattle.std.proofs.Common.{◌≡◌, ◌≤◌, length, drop}
use Rattle.icet_sparse.proofs.walk.Walk.skip.Given as goal

abbrev pub invariant-skipping : goal.invariant-skipping
invariant-skipping l = record { rest : drop l.left l.self ≡ drop l.initial.left l.initial.self; within : l.left ≤ length l.self }

abbrev pub decreases-skipping : goal.decreases-skipping
decreases-skipping l = l.left
