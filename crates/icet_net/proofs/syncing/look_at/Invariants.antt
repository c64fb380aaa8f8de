use Rattle.std.proofs.Common.{ℕ, ◌<◌}
use Rattle.icet_rank.specs.Machine.{IsRunning}
use Rattle.icet_net.specs.Ranks.{machine_at}
use Rattle.icet_net.proofs.syncing.look_at.Given as goal

abbrev pub invariant-looking : goal.invariant-looking
invariant-looking g l = (r : ℕ) → r < l.i → IsRunning (machine_at l.ranks r)
