-- What one move does to a list of ports, seen by the peer.
use Rattle.std.specs.Prelude.{◌≡◌, ◌≢◌, ◌≤◌, ◌+◌, ◌-◌, ℕ, List, [], ◌∷◌, ◌++◌, map, Option, Some, None, ◌⊎◌}
use Rattle.icet_model.specs.Run.{put}
use Rattle.icet_model.specs.Ports.{by_peer, messages_to, room_to, known_to, misses_to, pairing_to, AreAscending}
use Rattle.icet_model.specs.Faults.{Rose}
use Rattle.icet_model.specs.Wires.{Pairing, IsSameOpening, PixelMessage, PortView, AreSynced}

-- a port to this peer stands in the list
abbrev pub HasPeer : {P : Type 0} → ℕ → List (ℕ × P) → Type 0
HasPeer peer [] = ⊥
HasPeer peer (e ∷ es) = (e.0 ≡ peer) ⊎ HasPeer peer es

-- the port to a peer, if there is one
abbrev pub port_to : {P : Type 0} → List (ℕ × P) → ℕ → Option P
port_to ports peer = by_peer (λ p. Some p) None ports peer

-- the ranks at the other ends, in the order of the list
abbrev pub peers : List (ℕ × PortView) → List ℕ
peers ports = map (λ e. e.0) ports

-- the same peers have a port, each with the same pairing
pub record KeepsPairings (old new : List (ℕ × PortView)) : Type 0 where
  pub same_peers : peers new ≡ peers old
  pub same_pairings : pairing_to new ≡ pairing_to old

-- every port but the one to this peer is the same as before
pub record KeepsOthers (peer : ℕ) (old new : List (ℕ × PortView)) : Type 0 where
  pub same_peers : peers new ≡ peers old
  pub others : (q : ℕ) → peer ≢ q → port_to new q ≡ port_to old q
  pub ascend : AreAscending new

-- the port to this peer carried this message, and all else is as before
pub record Carried (peer : ℕ) (m : PixelMessage) (old new : List (ℕ × PortView)) : Type 0 where
  pub lists_are : messages_to new ≡ put (messages_to old) peer (messages_to old peer ++ m ∷ [])
  pub rooms_are : room_to new ≡ put (room_to old) peer (room_to old peer - 1)
  pub less_known : known_to old peer ≤ known_to new peer + 1
  pub same_misses : misses_to new ≡ misses_to old
  pub same_pairings : pairing_to new ≡ pairing_to old
  pub beside : KeepsOthers peer old new

-- the port to this peer carried some message, which its list tells
pub record CarriedOne (peer : ℕ) (old new : List (ℕ × PortView)) : Type 0 where
  pub message : PixelMessage
  pub carried : Carried peer message old new

-- the port to this peer was looked at and missed, and all else is as before
pub record Missed (peer : ℕ) (old new : List (ℕ × PortView)) : Type 0 where
  pub same_lists : messages_to new ≡ messages_to old
  pub same_rooms : room_to new ≡ room_to old
  pub none_known : known_to old peer ≡ 0
  pub more_misses : Rose (misses_to old peer) (misses_to new peer)
  pub same_pairings : pairing_to new ≡ pairing_to old
  pub beside : KeepsOthers peer old new

-- the port to this peer met its other end: no list, room or count of misses changed, nor what it was
-- opened with
pub record Met (peer : ℕ) (old new : List (ℕ × PortView)) : Type 0 where
  pub same_lists : messages_to new ≡ messages_to old
  pub same_rooms : room_to new ≡ room_to old
  pub same_misses : misses_to new ≡ misses_to old
  pub opening : (a b : Pairing) → pairing_to old peer ≡ Some a → pairing_to new peer ≡ Some b → IsSameOpening a b
  pub beside : KeepsOthers peer old new

-- the outbox to rank `to` and the inbox from rank `from` are paired, and were opened with `cap`
pub record ArePaired (from to cap : ℕ) (outboxes inboxes : List (ℕ × PortView)) : Type 0 where
  pub pairing : Pairing
  pub out : pairing_to outboxes to ≡ Some pairing
  pub inbox : pairing_to inboxes from ≡ Some pairing
  pub cap_is : pairing.cap ≡ cap

-- the outbox to rank `to` and the inbox from rank `from` are synced
abbrev pub IsSyncedPair : ℕ → ℕ → ℕ → List (ℕ × PortView) → List (ℕ × PortView) → Type 0
IsSyncedPair from to cap outboxes inboxes = AreSynced (messages_to outboxes to) (messages_to inboxes from) cap (known_to outboxes to) (known_to inboxes from)
