-- The ports over two rings of a pair: one for its messages, and one back for the credits of those that were taken.
use Rattle.std.specs.Prelude.{◌≡◌, ℕ, ◌+◌, ◌-◌, ◌≤◌, List, [], length, Some}
use Rattle.icet_model.specs.Wires.{PixelMessage, RingName, Rings, PortView}
use Rattle.icet_ring_wires.specs.declared.ports.Opening.{Opening}
use Rattle.rtrb.specs.declared.consumer.Consumer.{Consumer}
use Rattle.rtrb.specs.declared.end.End.{End}
use Rattle.rtrb.specs.declared.producer.Producer.{Producer}
use Rattle.rtrb.specs.Ring.{sent, known_free, received, known_items, IsPair, SameConsumer, ProducerLooked}

-- the ring of an end, by where its words and its slots lie, and by the names of its counts
abbrev pub ring_name : {T A P : Type 0} → End T A P → RingName
ring_name e = record { words = e.words; slots = e.slots; counts = e.names }

-- a port of an opening: the messages that went through it, how many it knows to go through, its misses, and of how
-- many messages it was told, or told, otherwise than by a credit
abbrev pub port_view : Opening → Rings → List PixelMessage → ℕ → ℕ → ℕ → PortView
port_view opening rings messages known misses seen = record {
  messages = messages;
  room = opening.total - length messages;
  known = known;
  misses = misses;
  pairing = record {
    from = opening.from;
    to = opening.to;
    cap = opening.cap;
    total = opening.total;
    agreed = [];
    seen = seen;
    rings = Some rings;
  };
}

module _ {A P : Type 0} where
  -- an outbox, which knows that so many of its messages were taken
  abbrev pub outbox_view : Opening → Producer PixelMessage A P → Consumer ℕ A P → ℕ → ℕ → PortView
  outbox_view opening messages credits seen misses =
      port_view opening (record { messages = ring_name messages.end; credits = ring_name credits.end }) (sent messages)
      (seen + opening.cap - length (sent messages)) misses (seen - length (received credits))

  -- an outbox has a free slot for each message that it may still send; those behind the ones that it knows
  -- to be taken are at most the capacity
  pub record IsOutbox (opening : Opening) (messages : Producer PixelMessage A P) (credits : Consumer ℕ A P) (count seen : ℕ) : Type 0 where
    pub counted : count ≡ length (sent messages)
    pub within : count ≤ opening.total
    pub free_kept : opening.total ≤ count + known_free messages
    pub held : count ≤ seen + opening.cap
    pub credited : length (received credits) ≤ seen
    pub seen_behind : seen ≤ count

  -- an inbox, which has told of so many of the messages that it took
  abbrev pub inbox_view : Opening → Consumer PixelMessage A P → Producer ℕ A P → ℕ → ℕ → PortView
  inbox_view opening messages credits told misses =
      port_view opening (record { messages = ring_name messages.end; credits = ring_name credits.end }) (received messages)
      (length (known_items messages)) misses (told - length (sent credits))

  -- an inbox has told, by a credit or in a sync, of no more messages than it took
  pub record IsInbox (opening : Opening) (messages : Consumer PixelMessage A P) (credits : Producer ℕ A P) (count told : ℕ) : Type 0 where
    pub counted : count ≡ length (received messages)
    pub within : count ≤ opening.total
    pub credited : length (sent credits) ≤ told
    pub told_behind : told ≤ count

-- the two ends of a ring of credits met: they are still its ends, as many were pushed as before, and no fewer popped
pub record CreditsMet {A P : Type 0} (old new : Consumer ℕ A P) (told_old told_new : Producer ℕ A P) : Type 0 where
  pub paired : IsPair told_new new
  pub listener : SameConsumer old new
  pub popped : length (received old) ≤ length (received new)
  pub teller : ProducerLooked told_old told_new
