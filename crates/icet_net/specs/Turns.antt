-- What a turn of one rank leaves.
use Rattle.std.specs.Prelude.{◌≡◌, ◌≢◌, ℕ, ◌+◌, ◌<◌, length}
use Rattle.icet_model.specs.Exchange.{exchanges}
use Rattle.icet_model.specs.Ports.{misses_to}
use Rattle.icet_rank.specs.Machine.{MachineView}
use Rattle.icet_net.specs.Ranks.{GoesOn, HadTurn}

-- so many steps of a rank moved it
pub record MovedBy (steps : ℕ) (old new : MachineView) : Type 0 where
  pub goes_on : GoesOn old new
  pub counter : new.counter ≡ old.counter + steps
  pub none : steps ≡ 0 → new ≡ old
  pub in_misses : misses_to new.inboxes ≡ misses_to old.inboxes
  pub out_misses : misses_to new.outboxes ≡ misses_to old.outboxes
  pub had_left : 0 < steps → old.counter ≢ length (exchanges old.ops)

-- the rank had its turn, and goes on from where it was
pub record TurnsOn (burst : ℕ) (old new : MachineView) : Type 0 where
  pub goes_on : GoesOn old new
  pub had_turn : HadTurn burst old new
