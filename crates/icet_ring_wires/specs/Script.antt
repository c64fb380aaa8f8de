-- Ports that look away at some of their calls, by a script.
use Rattle.std.specs.Prelude.{◌≡◌, ℕ, ◌+◌, ◌-◌, ◌≤◌, ◌^◌, ◌&&◌, Bool, true, false, List, length, if◌then◌else◌, min, nat_eq}
use Rattle.std.specs.List.{list_any}
use Rattle.icet_model.specs.Pixel.{Pixel}
use Rattle.icet_model.specs.Traffic.{PairTraffic}
use Rattle.icet_model.specs.Wires.{PixelMessage, PortView, PortCarries, PortMet, PortMisses}

-- the numbers of the calls at which the port is blind, how many messages it knows to go through, how many
-- calls it had at which it knew of none, and how often it missed
pub record ScriptView : Type 0 where
  pub blind : List ℕ
  pub known : ℕ
  pub calls : ℕ
  pub misses : ℕ

-- a script at its port's opening
abbrev pub new_script : List ℕ → ℕ → ScriptView
new_script blind known = record { blind = blind; known = known; calls = 0; misses = 0 }

-- whether the port looks away in its next call: it knows of nothing, and the call's number is in the list
abbrev pub is_blind : ScriptView → Bool
is_blind s = nat_eq s.known 0 && list_any (λ n. nat_eq n s.calls) s.blind

-- the script after a call in which a message went through
abbrev pub after_message : ScriptView → ScriptView
after_message s = record {
  blind = s.blind;
  known = s.known - 1;
  calls = if nat_eq s.known 0 then min (s.calls + 1) (2 ^ 64 - 1) else s.calls;
  misses = s.misses;
}

-- the script after a call in which none did, since none was known to
abbrev pub after_miss : ScriptView → ScriptView
after_miss s = record {
  blind = s.blind;
  known = s.known;
  calls = min (s.calls + 1) (2 ^ 64 - 1);
  misses = min (s.misses + 1) (2 ^ 64 - 1);
}

-- a port over rings, and the script by which it looks
pub record ScriptedView : Type 0 where
  pub ring : PortView
  pub script : ScriptView

-- what the port shows: of the ring's port all but what it knows and how often it missed
abbrev pub scripted_port : ScriptedView → PortView
scripted_port v = record {
  messages = v.ring.messages;
  room = v.ring.room;
  known = v.script.known;
  misses = v.script.misses;
  pairing = v.ring.pairing;
}

-- the message went through the ring
pub record ScriptCarries (message : PixelMessage) (old new : ScriptedView) : Type 0 where
  pub ring : PortCarries message old.ring new.ring
  pub script : new.script ≡ after_message old.script

-- no message did: in a blind call nothing happened to the ring, and in another the ring's port missed
pub record ScriptMisses (old new : ScriptedView) : Type 0 where
  pub blind : is_blind old.script ≡ true → new.ring ≡ old.ring
  pub looked : is_blind old.script ≡ false → PortMisses old.ring new.ring
  pub script : new.script ≡ after_miss old.script

-- what contracts see of the wires: those over rings, and the numbers of the blind calls
pub record ScriptWiresView : Type 0 where
  pub log : List (PairTraffic (List Pixel))
  pub owed : ℕ
  pub blind : List ℕ

-- so many messages went through the port, and its ring's port knows of at least as many to come as the script does
pub record IsScripted (ring : PortView) (script : ScriptView) (count total : ℕ) : Type 0 where
  pub counted : count ≡ length ring.messages
  pub within : count + ring.room ≡ total
  pub known_in_ring : script.known ≤ ring.known

-- a port met its other end: it has the same list of blind calls, of which it had as many
pub record ScriptMet (old new : ScriptedView) : Type 0 where
  pub ring : PortMet old.ring new.ring
  pub blind : new.script.blind ≡ old.script.blind
  pub calls : new.script.calls ≡ old.script.calls
  pub misses : new.script.misses ≡ old.script.misses
