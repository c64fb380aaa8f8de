use Rattle.std.proofs.Common.{◌≡◌, ◌++◌}
use Rattle.icet_plan.specs.Each.{each}
use Rattle.icet_legs.specs.Group.{group_cuts}
use Rattle.icet_radixk.specs.Round.{round_group}
use Rattle.icet_radixk.proofs.round.Round.push_cuts.Given as goal

abbrev pub invariant-loop-b : goal.invariant-loop-b
invariant-loop-b l = l.ops.items ≡ l.fn.ops.items ++ each (group_cuts (round_group l.fn.task l.fn.self) l.fn.self.p) l.b
