use Rattle.std.proofs.Common.{◌≡◌, ◌++◌}
use Rattle.icet_plan.specs.Each.{each}
use Rattle.icet_legs.specs.Group.{group_joins}
use Rattle.icet_radixk.proofs.round.Round.push_joins.Given as goal

abbrev pub invariant-loop-b : goal.invariant-loop-b
invariant-loop-b l = l.ops.items ≡ l.fn.ops.items ++ each (group_joins) l.b
