-- What a step leaves behind, for each of its answers.
use Rattle.std.specs.Prelude.{◌≡◌, ◌≤◌, ◌<◌, ◌+◌, ℕ, List, Option, Some, length, slice_get}
use Rattle.icet_model.specs.declared.exchange.Kind.{Kind}
use Rattle.icet_model.specs.declared.exchange.Kind.TheVariants.{Send, Take}
use Rattle.icet_model.specs.declared.exchange.Exchange.{Exchange}
use Rattle.icet_model.specs.declared.exchange.Op.TheVariants.{Swap}
use Rattle.icet_model.specs.Pixel.{Pixel}
use Rattle.icet_model.specs.Exchange.{exchanges}
use Rattle.icet_model.specs.Run.{Piece, message_of, upto}
use Rattle.icet_model.specs.Ports.{at_list, messages_to, known_to, misses_to}
use Rattle.icet_rank.specs.Moves.{KeepsPairings, Carried, CarriedOne, Missed, ArePaired, IsSyncedPair}
use Rattle.icet_rank.specs.Slots.{SendsFrom}
use Rattle.icet_rank.specs.Machine.{MachineView, carrier_of}

-- number, mode, program and images are as before
pub record SameJob (old new : MachineView) : Type 0 where
  pub number : new.number ≡ old.number
  pub mode : new.mode ≡ old.mode
  pub ops : new.ops ≡ old.ops
  pub images : new.images ≡ old.images

-- each port has its peer and its pairing as before
pub record SamePairings (old new : MachineView) : Type 0 where
  pub inboxes : KeepsPairings old.inboxes new.inboxes
  pub outboxes : KeepsPairings old.outboxes new.outboxes

-- work that moves no message: the place is not lower, and ports and counter are as before
pub record Worked (old new : MachineView) : Type 0 where
  pub job : SameJob old new
  pub place : old.place ≤ new.place
  pub counter : new.counter ≡ old.counter
  pub inboxes : new.inboxes ≡ old.inboxes
  pub outboxes : new.outboxes ≡ old.outboxes

-- nothing is left: no exchange was left before, and the local work is finished
pub record Ends (old new : MachineView) : Type 0 where
  pub worked : Worked old new
  pub place : new.place ≡ length old.ops
  pub none_left : old.counter ≡ length (exchanges old.ops)

-- the slots of the local run up to a place, on what the machine has taken
abbrev pub slots_at : MachineView → ℕ → ℕ → Option (Piece (List Pixel))
slots_at m place = (upto (carrier_of m.mode m.images) m.number (messages_to m.inboxes) m.ops place).slots

-- the outbox to the peer carried a message with the exchange's round and pair and the given piece
pub record CarriedSend (e : Exchange) (given : Option (Piece (List Pixel))) (old new : MachineView) : Type 0 where
  pub piece : Piece (List Pixel)
  pub is_given : given ≡ Some piece
  pub carried : Carried e.peer (message_of e old.number piece) old.outboxes new.outboxes
  pub same_inboxes : new.inboxes ≡ old.inboxes

-- the inbox from the peer carried a message
pub record CarriedTake (e : Exchange) (old new : MachineView) : Type 0 where
  pub carried : CarriedOne e.peer old.inboxes new.inboxes
  pub same_outboxes : new.outboxes ≡ old.outboxes

-- the exchange's port carried one message, by its kind
abbrev pub Carries : Kind → Exchange → Option (Piece (List Pixel)) → MachineView → MachineView → Type 0
Carries Send e given old new = CarriedSend e given old new
Carries Take e given old new = CarriedTake e old new

pub record MissedSend (e : Exchange) (old new : MachineView) : Type 0 where
  pub missed : Missed e.peer old.outboxes new.outboxes
  pub same_inboxes : new.inboxes ≡ old.inboxes

pub record MissedTake (e : Exchange) (old new : MachineView) : Type 0 where
  pub missed : Missed e.peer old.inboxes new.inboxes
  pub same_outboxes : new.outboxes ≡ old.outboxes

-- the exchange's port missed, by its kind
abbrev pub Misses : Kind → Exchange → MachineView → MachineView → Type 0
Misses Send e old new = MissedSend e old new
Misses Take e old new = MissedTake e old new

-- how many messages the exchange's port is known to carry now, by its kind
abbrev pub known_at : Kind → ℕ → MachineView → ℕ
known_at Send peer m = known_to m.outboxes peer
known_at Take peer m = known_to m.inboxes peer

-- how often the exchange's port has missed, by its kind
abbrev pub misses_at : Kind → ℕ → MachineView → ℕ
misses_at Send peer m = misses_to m.outboxes peer
misses_at Take peer m = misses_to m.inboxes peer

-- an exchange is due, and its port is known to carry it
pub record IsKnownReady (m : MachineView) : Type 0 where
  pub exchange : Exchange
  pub is_due : slice_get (exchanges m.ops) m.counter ≡ Some exchange
  pub is_known : 0 < known_at exchange.kind exchange.peer m

-- the due exchange stood at `at`, behind the local work, and was done with what the slot held there
pub record Moves (old new : MachineView) : Type 0 where
  pub exchange : Exchange
  pub slot : ℕ
  pub at : ℕ
  pub is_due : slice_get (exchanges old.ops) old.counter ≡ Some exchange
  pub is_op : slice_get old.ops at ≡ Some (Swap exchange slot)
  pub carries : Carries exchange.kind exchange (slots_at old at slot) old new
  pub counter : new.counter ≡ old.counter + 1
  pub place : new.place ≡ at + 1
  pub forward : old.place ≤ at

-- the due exchange's port missed, and the slots are those before that exchange
pub record Pends (old new : MachineView) : Type 0 where
  pub exchange : Exchange
  pub slot : ℕ
  pub is_due : slice_get (exchanges old.ops) old.counter ≡ Some exchange
  pub is_op : slice_get old.ops new.place ≡ Some (Swap exchange slot)
  pub misses : Misses exchange.kind exchange old new
  pub counter : new.counter ≡ old.counter
  pub slots : at_list new.slots ≡ slots_at old new.place
  pub forward : old.place ≤ new.place

-- the outbox of the sender to the receiver and the receiver's inbox from it are synced
abbrev pub AreInSync : ℕ → MachineView → MachineView → Type 0
AreInSync cap sender receiver = IsSyncedPair sender.number receiver.number cap sender.outboxes receiver.inboxes

-- the outbox of the sender to the receiver and the receiver's inbox from it are paired, and were opened
-- with `cap`
abbrev pub CanSync : ℕ → MachineView → MachineView → Type 0
CanSync cap sender receiver = ArePaired sender.number receiver.number cap sender.outboxes receiver.inboxes

-- the outbox to the exchange's peer carried the piece that was in a slot
abbrev pub SendsItsSlot : Exchange → ℕ → MachineView → MachineView → Type 0
SendsItsSlot e slot old new = SendsFrom e old.number old.slots slot old.outboxes new.outboxes

-- the exchange's port carried one message, a send that of the slot's piece
abbrev pub CarriesSlot : Exchange → ℕ → MachineView → MachineView → Type 0
CarriesSlot e slot old new = Carries e.kind e (at_list old.slots slot) old new
