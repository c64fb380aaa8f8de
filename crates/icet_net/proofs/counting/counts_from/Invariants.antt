use Rattle.std.proofs.Common.{◌≡◌, ◌<◌, ℕ, length, get_or, take}
use Rattle.icet_model.specs.Exchange.{of_rank}
use Rattle.icet_model.specs.Plan.{plan_exchanges}
use Rattle.icet_net.specs.Counting.{sent_in}
use Rattle.icet_net.proofs.counting.counts_from.Given as goal

abbrev pub invariant-counting : goal.invariant-counting
invariant-counting l = record {
  count : length l.counts.items ≡ length l.plan.programs;
  each : (r : ℕ) → r < length l.plan.programs → get_or l.counts.items r 0 ≡ sent_in (take l.i (of_rank (plan_exchanges l.plan) l.from)) r;
}
