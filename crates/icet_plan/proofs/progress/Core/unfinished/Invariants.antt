use Rattle.std.proofs.Common.{◌≡◌, ◌<◌, ℕ, get_or, length}
use Rattle.icet_model.specs.Exchange.{of_rank}
use Rattle.icet_plan.specs.Keeps.{all_of}
use Rattle.icet_plan.proofs.progress.Core.unfinished.Given as goal

abbrev pub invariant-loop-rank : goal.invariant-loop-rank
invariant-loop-rank l = (r : ℕ) → r < l.rank → get_or l.self.done r 0 ≡ length (of_rank (all_of l.self) r)
