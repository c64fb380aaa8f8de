use Rattle.std.proofs.Common.{◌<◌, ℕ}
use Rattle.icet_plan.specs.Keeps.{CanGo}
use Rattle.icet_plan.proofs.progress.Core.next_enabled.Given as goal

abbrev pub invariant-loop-rank : goal.invariant-loop-rank
invariant-loop-rank l = (r : ℕ) → r < l.rank → CanGo l.self r → ⊥
