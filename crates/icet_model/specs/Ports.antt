-- Slots and ports in a list, seen as functions of the slot's number or of the peer.
use Rattle.std.specs.Prelude.{◌≡◌, ℕ, ◌<◌, cond, ◌==◌, List, [], ◌∷◌, length, get_or, Option, Some, None, map}
use Rattle.std.specs.List.{AllByRecursion}
use Rattle.icet_model.specs.declared.exchange.Op.{Op}
use Rattle.icet_model.specs.Run.{Carrier, Piece, MessageView, upto}
use Rattle.icet_model.specs.Wires.{Pairing, PixelMessage, PortView}

-- the slot of a number; one beyond the list is empty
abbrev pub at_list : {V : Type 0} → List (Option V) → ℕ → Option V
at_list slots k = get_or slots k None

-- a meaning of the port to a peer, or `d` where there is no such port
abbrev pub by_peer : {P V : Type 0} → (P → V) → V → List (ℕ × P) → ℕ → V
by_peer f d [] k = d
by_peer f d (e ∷ es) k = cond (e.0 == k) (f e.1) (by_peer f d es k)

-- what went through the port to a peer, how many messages it can carry yet, how many are known to go
-- through now, and how often none did; a peer without a port has none and 0
abbrev pub messages_to : List (ℕ × PortView) → ℕ → List PixelMessage
messages_to ports = by_peer (λ p. p.messages) [] ports

abbrev pub room_to : List (ℕ × PortView) → ℕ → ℕ
room_to ports = by_peer (λ p. p.room) 0 ports

abbrev pub known_to : List (ℕ × PortView) → ℕ → ℕ
known_to ports = by_peer (λ p. p.known) 0 ports

abbrev pub misses_to : List (ℕ × PortView) → ℕ → ℕ
misses_to ports = by_peer (λ p. p.misses) 0 ports

-- the pairing of the port to a peer, if there is such a port
abbrev pub pairing_to : List (ℕ × PortView) → ℕ → Option Pairing
pairing_to ports = by_peer (λ p. Some p.pairing) None ports

-- what contracts see of the ports in a list, each with its peer
abbrev pub port_views : {P : Type 0} → (P → PortView) → List (ℕ × P) → List (ℕ × PortView)
port_views view ports = map (λ p. (p.0, view p.1)) ports

-- ports stand ascending by peer
abbrev pub AreAscending : {P : Type 0} → List (ℕ × P) → Type 0
AreAscending [] = Unit {0}
AreAscending (e ∷ es) = AllByRecursion (λ x. e.0 < x.0) es × AreAscending es

-- a rank at a place of its program: its slots, its kept pieces and what it sent are the local run's
-- on what it has taken, all of which was used
pub record IsAt {T : Type 0} (c : Carrier T) (me : ℕ) (ops : List Op) (place : ℕ) (taken : ℕ → List (MessageView T)) (slots : ℕ → Option (Piece T)) (kept : List (Piece T)) (sent : ℕ → List (MessageView T)) : Type 0 where
  pub slots_are : slots ≡ (upto c me taken ops place).slots
  pub kept_are : kept ≡ (upto c me taken ops place).kept
  pub sent_are : (r : ℕ) → sent r ≡ (upto c me taken ops place).sent r
  pub used_are : (p : ℕ) → length (taken p) ≡ (upto c me taken ops place).used p
