-- The ports and the wires in memory.
use Rattle.std.specs.Prelude.{◌≡◌, ℕ, ◌+◌, ◌-◌, ◌≤◌, List, [], length, take, drop, None}
use Rattle.icet_model.specs.Pixel.{Pixel}
use Rattle.icet_model.specs.Run.{MessageView}
use Rattle.icet_model.specs.Traffic.{PairTraffic}
use Rattle.icet_model.specs.Wires.{PortView}

-- a port of a new pair
abbrev pub opened : ℕ → ℕ → ℕ → ℕ → ℕ → PortView
opened from to cap total known = record {
  messages = [];
  room = total;
  known = known;
  misses = 0;
  pairing = record { from = from; to = to; cap = cap; total = total; agreed = []; seen = 0; rings = None };
}

-- what contracts see of the wires in memory
pub record WiresView : Type 0 where
  pub log : List (PairTraffic (List Pixel))
  pub owed : ℕ

-- an outbox, of whose messages the first were carried across
abbrev pub outbox_view : ℕ → ℕ → ℕ → ℕ → List (MessageView (List Pixel)) → ℕ → ℕ → ℕ → PortView
outbox_view from to cap total sent carried seen misses = record {
  messages = sent;
  room = total - length sent;
  known = seen + cap - length sent;
  misses = misses;
  pairing = record { from = from; to = to; cap = cap; total = total; agreed = take carried sent; seen = seen; rings = None };
}

-- an outbox holds the memory for all its messages, and those behind the ones that its inbox is
-- known to have taken are at most the capacity
pub record IsOutbox (cap total carried seen memory : ℕ) (sent : List (MessageView (List Pixel))) : Type 0 where
  pub all : length sent ≤ total
  pub waiting : length sent ≤ seen + cap
  pub behind : carried ≤ length sent
  pub seen_behind : seen ≤ carried
  pub memory_kept : total ≤ memory

-- an inbox, from whose messages carried so far the first were taken
abbrev pub inbox_view : ℕ → ℕ → ℕ → ℕ → List (MessageView (List Pixel)) → List (MessageView (List Pixel)) → ℕ → ℕ → ℕ → PortView
inbox_view from to cap total carried ready taken seen misses = record {
  messages = take taken carried;
  room = total - taken;
  known = length ready;
  misses = misses;
  pairing = record { from = from; to = to; cap = cap; total = total; agreed = carried; seen = seen; rings = None };
}

-- an inbox holds a further copy of each message that was not taken, and the memory for all
pub record IsInbox (total taken seen memory queue_memory : ℕ) (carried ready : List (MessageView (List Pixel))) : Type 0 where
  pub all : length carried ≤ total
  pub behind : taken ≤ length carried
  pub ready_are : ready ≡ drop taken carried
  pub seen_behind : seen ≤ taken
  pub memory_kept : total ≤ memory
  pub queue_kept : total ≤ queue_memory
