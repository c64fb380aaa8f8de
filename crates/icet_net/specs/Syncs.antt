-- What one meeting of two ports leaves, and what is known while the pairs of a net meet one after the other.
use Rattle.std.specs.Prelude.{◌≡◌, ◌≢◌, ℕ, ◌+◌, ◌<◌, List, length, Some, slice_get}
use Rattle.icet_rank.specs.Moves.{Met, ArePaired, IsSyncedPair}
use Rattle.icet_rank.specs.Machine.{MachineView, IsRunning}
use Rattle.icet_net.specs.Net.{HullView}
use Rattle.icet_net.specs.Ranks.{machine_at, AreHulls, EachRank, MetOthers}

-- each machine keeps what its type says
pub record AreRunning (machines : List MachineView) : Type 0 where
  pub each : (r : ℕ) → r < length machines → IsRunning (machine_at machines r)

-- the ports of the pair from q to r met, and all else of all machines is as before
pub record MetPair (q r cap : ℕ) (old new : List MachineView) : Type 0 where
  pub count : length new ≡ length old
  pub others : (k : ℕ) → k ≢ q → k ≢ r → machine_at new k ≡ machine_at old k
  pub sender : machine_at new q ≡ record (machine_at old q) { outboxes = (machine_at new q).outboxes }
  pub receiver : machine_at new r ≡ record (machine_at old r) { inboxes = (machine_at new r).inboxes }
  pub out : Met r (machine_at old q).outboxes (machine_at new q).outboxes
  pub inbox : Met q (machine_at old r).inboxes (machine_at new r).inboxes
  pub paired : ArePaired q r cap (machine_at new q).outboxes (machine_at new r).inboxes

-- the two ports of the pair have met
abbrev pub HasMet : ℕ → List MachineView → ℕ → ℕ → Type 0
HasMet cap machines q r = IsSyncedPair q r cap (machine_at machines q).outboxes (machine_at machines r).inboxes

-- the first n pairs of the list have met
pub record AreSyncedBelow (n : ℕ) (cap : ℕ) (pairs : List (ℕ × ℕ)) (machines : List MachineView) : Type 0 where
  pub each : (i : ℕ) (p : ℕ × ℕ) → i < n → slice_get pairs i ≡ Some p → HasMet cap machines p.0 p.1

-- where the first n pairs of the hull had met, so has the next
abbrev pub SyncsNext : ℕ → HullView → List MachineView → List MachineView → Type 0
SyncsNext n hull old new = AreSyncedBelow n hull.cap hull.pairs old → AreSyncedBelow (n + 1) hull.cap hull.pairs new

-- the ports of the pair from q to r are paired, and were opened with `cap`
abbrev pub CanMeet : ℕ → ℕ → ℕ → List MachineView → Type 0
CanMeet q r cap machines = ArePaired q r cap (machine_at machines q).outboxes (machine_at machines r).inboxes

-- the first n pairs of the hull have met
pub record SyncsOn (hull : HullView) (n : ℕ) (old new : List MachineView) : Type 0 where
  pub hulls : AreHulls hull new
  pub same : EachRank MetOthers old new
  pub synced : AreSyncedBelow n hull.cap hull.pairs new
