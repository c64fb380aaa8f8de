-- The ports between two ranks: what contracts see of one, what a call leaves of it, what ties the two
-- ports of a pair together, and what a sync makes of them.
use Rattle.std.specs.Prelude.{◌≡◌, ℕ, ◌+◌, ◌≤◌, List, [], ◌∷◌, ◌++◌, length, Option}
use denote.RawPtr.{Ptr}
use Rattle.icet_model.specs.Faults.{Rose}
use Rattle.icet_model.specs.Pixel.{Pixel}
use Rattle.icet_model.specs.Run.{MessageView}

-- a message of pixels
abbrev pub PixelMessage : Type 0
PixelMessage = MessageView (List Pixel)

-- which ring of which allocation: where its words and its slots lie, and the names of its counts
pub record RingName : Type 0 where
  pub words : Ptr
  pub slots : Ptr
  pub counts : ℕ × (ℕ × ℕ)

-- the two rings of a pair: one for messages, and one back for what was taken
pub record Rings : Type 0 where
  pub messages : RingName
  pub credits : RingName

-- the pairing that both ports of one opening carry: who sends to whom, how many messages may wait,
-- how many the pair carries in its life, which were carried across so far, how many of these had been
-- taken when the ports last met, and the rings, where the wires have some
pub record Pairing : Type 0 where
  pub from : ℕ
  pub to : ℕ
  pub cap : ℕ
  pub total : ℕ
  pub agreed : List PixelMessage
  pub seen : ℕ
  pub rings : Option Rings

-- the same opening: the ranks, the capacity, the total and the rings are as before
pub record IsSameOpening (old new : Pairing) : Type 0 where
  pub from : new.from ≡ old.from
  pub to : new.to ≡ old.to
  pub cap : new.cap ≡ old.cap
  pub total : new.total ≡ old.total
  pub rings : new.rings ≡ old.rings

-- what contracts see of a port: the messages that went through it, in order; how many more it can carry
-- in its life; how many are known to go through now; how often none did; and its pairing
pub record PortView : Type 0 where
  pub messages : List PixelMessage
  pub room : ℕ
  pub known : ℕ
  pub misses : ℕ
  pub pairing : Pairing

-- the message went through the port
pub record PortCarries (message : PixelMessage) (old new : PortView) : Type 0 where
  pub messages : new.messages ≡ old.messages ++ message ∷ []
  pub room : old.room ≡ new.room + 1
  pub known : old.known ≤ new.known + 1
  pub misses : new.misses ≡ old.misses
  pub pairing : new.pairing ≡ old.pairing

-- nothing went through the port, since nothing was known to; it counts the miss
pub record PortMisses (old new : PortView) : Type 0 where
  pub known : old.known ≡ 0
  pub misses : Rose old.misses new.misses
  pub messages : new.messages ≡ old.messages
  pub room : new.room ≡ old.room
  pub pairing : new.pairing ≡ old.pairing

-- a port of a pair that was just opened, of which so many messages are known to go through
pub record IsNewPort (q r c n k : ℕ) (port : PortView) : Type 0 where
  pub from : port.pairing.from ≡ q
  pub to : port.pairing.to ≡ r
  pub cap : port.pairing.cap ≡ c
  pub total : port.pairing.total ≡ n
  pub messages : port.messages ≡ []
  pub room : port.room ≡ n
  pub known : port.known ≡ k

-- the two ports of a pair that was just opened from rank q to rank r, for n messages, of which c may wait
pub record IsNewPair (q r c n : ℕ) (out inbox : PortView) : Type 0 where
  pub paired : out.pairing ≡ inbox.pairing
  pub out_is : IsNewPort q r c n c out
  pub inbox_is : IsNewPort q r c n 0 inbox

-- the port met its other end: its messages, room and misses are as before, and so is its opening
pub record PortMet (old new : PortView) : Type 0 where
  pub messages : new.messages ≡ old.messages
  pub room : new.room ≡ old.room
  pub misses : new.misses ≡ old.misses
  pub opening : IsSameOpening old.pairing new.pairing

-- what was sent is what was taken and then the waiting messages, which are at most `cap`; the
-- inbox knows each of them, and the outbox each free place
pub record AreSynced {M : Type 0} (sent taken : List M) (cap free_known known : ℕ) : Type 0 where
  pub waiting : List M
  pub carried : sent ≡ taken ++ waiting
  pub held : length waiting ≤ cap
  pub known_are : known ≡ length waiting
  pub free_are : free_known + length waiting ≡ cap

-- the same of the two ports
abbrev pub PortsAreSynced : ℕ → PortView → PortView → Type 0
PortsAreSynced cap out inbox = AreSynced out.messages inbox.messages cap out.known inbox.known

-- the two ports of one opening met: they are paired again, and all else is as before
pub record PairMet (out_old out_new in_old in_new : PortView) : Type 0 where
  pub paired : out_new.pairing ≡ in_new.pairing
  pub out : PortMet out_old out_new
  pub inbox : PortMet in_old in_new
