-- The local run of one rank's program: what its slots hold, what it keeps and what it sends, given
-- what it takes. One run serves every kind of content, such as brackets and lists of pixels.
use Rattle.std.specs.Prelude.{ℕ, suc, ◌-◌, Bool, cond, ◌&&◌, ◌==◌, List, [], ◌∷◌, ◌++◌, take, Option, Some, None, slice_get}
use Rattle.icet_model.specs.declared.exchange.Kind.{Kind}
use Rattle.icet_model.specs.declared.exchange.Kind.TheVariants.{Send, Take}
use Rattle.icet_model.specs.declared.exchange.Exchange.{Exchange}
use Rattle.icet_model.specs.declared.exchange.Op.{Op}
use Rattle.icet_model.specs.declared.exchange.Op.TheVariants.{Load, Blank, Cut, Join, Swap, Keep}

-- a kind of content: how a rank's own, a blank one, the two parts of a cut one and a joined one are made
pub record Carrier (T : Type 0) : Type 0 where
  pub size : ℕ → ℕ  -- a tile's number of positions
  pub load : ℕ → T  -- the rank's own whole image of a tile
  pub blank : ℕ → ℕ → ℕ → T  -- of a tile, from lo to hi
  pub front : ℕ → T → T  -- the first so many positions
  pub rest : ℕ → T → T  -- what is behind them
  pub join : T → T → T  -- the front first

-- a run of positions of a tile's image, from lo up to hi, not included
pub record Piece (T : Type 0) : Type 0 where
  pub tile : ℕ
  pub lo : ℕ
  pub hi : ℕ
  pub content : T

-- what contracts see of a message
pub record MessageView (T : Type 0) : Type 0 where
  pub round : ℕ
  pub from : ℕ
  pub to : ℕ
  pub piece : Piece T

-- where one rank stands: its slots, the pieces that it keeps for display, what it has sent to each
-- rank, and how many messages of each rank it has used
pub record Local (T : Type 0) : Type 0 where
  pub slots : ℕ → Option (Piece T)
  pub kept : List (Piece T)
  pub sent : ℕ → List (MessageView T)
  pub used : ℕ → ℕ

-- the function with one value changed
abbrev pub put : {V : Type 0} → (ℕ → V) → ℕ → V → ℕ → V
put f i v k = cond (i == k) v (f k)

-- before the first operation
abbrev pub fresh : {T : Type 0} → Local T
fresh = record { slots = λ _. None; kept = []; sent = λ _. []; used = λ _. 0 }

abbrev pub whole : {T : Type 0} → Carrier T → ℕ → Piece T
whole c tile = record { tile = tile; lo = 0; hi = c.size tile; content = c.load tile }

abbrev pub blank_of : {T : Type 0} → Carrier T → ℕ → ℕ → ℕ → Piece T
blank_of c tile lo hi = record { tile = tile; lo = lo; hi = hi; content = c.blank tile lo hi }

abbrev pub lower : {T : Type 0} → Carrier T → ℕ → Piece T → Piece T
lower c at p = record { tile = p.tile; lo = p.lo; hi = at; content = c.front (at - p.lo) p.content }

abbrev pub upper : {T : Type 0} → Carrier T → ℕ → Piece T → Piece T
upper c at p = record { tile = p.tile; lo = at; hi = p.hi; content = c.rest (at - p.lo) p.content }

abbrev pub joined_piece : {T : Type 0} → Carrier T → Piece T → Piece T → Piece T
joined_piece c p q = record { tile = p.tile; lo = p.lo; hi = p.hi; content = c.join p.content q.content }

abbrev pub cut_slots : {T : Type 0} → Carrier T → ℕ → ℕ → ℕ → Option (Piece T) → (ℕ → Option (Piece T)) → ℕ → Option (Piece T)
cut_slots c slot at into None slots = slots
cut_slots c slot at into (Some p) slots = put (put slots slot (Some (lower c at p))) into (Some (upper c at p))

abbrev pub join_slots : {T : Type 0} → Carrier T → ℕ → ℕ → ℕ → Option (Piece T) → Option (Piece T) → (ℕ → Option (Piece T)) → ℕ → Option (Piece T)
join_slots c front back into (Some p) (Some q) slots = put (put (put slots front None) back None) into (Some (joined_piece c p q))
join_slots c front back into (Some p) None slots = slots
join_slots c front back into None q slots = slots

-- what goes out: the slot's piece, or a blank one of the exchange's range where the slot is empty
abbrev pub given : {T : Type 0} → Carrier T → Exchange → Option (Piece T) → Piece T
given c e None = blank_of c e.tile e.lo e.hi
given c e (Some p) = p

-- the piece has the exchange's tile and range
abbrev pub has_heading : {T : Type 0} → Exchange → Piece T → Bool
has_heading e p = (p.tile == e.tile) && ((p.lo == e.lo) && (p.hi == e.hi))

-- what comes in: the message's piece, or a blank one of the exchange's range where there is no
-- message or its piece doesn't fit
abbrev pub received : {T : Type 0} → Carrier T → Exchange → Option (MessageView T) → Piece T
received c e None = blank_of c e.tile e.lo e.hi
received c e (Some m) = cond (has_heading e m.piece) m.piece (blank_of c e.tile e.lo e.hi)

abbrev pub with_kept : {T : Type 0} → List (Piece T) → Option (Piece T) → List (Piece T)
with_kept kept None = kept
with_kept kept (Some p) = kept ++ p ∷ []

-- the message of rank `me` that carries the piece
abbrev pub message_of : {T : Type 0} → Exchange → ℕ → Piece T → MessageView T
message_of e me p = record { round = e.round; from = me; to = e.peer; piece = p }

abbrev pub swapped : {T : Type 0} → Carrier T → ℕ → Option (MessageView T) → Kind → Exchange → ℕ → Local T → Local T
swapped c me m Send e slot s = record { slots = put s.slots slot None; kept = s.kept; sent = put s.sent e.peer (s.sent e.peer ++ message_of e me (given c e (s.slots slot)) ∷ []); used = s.used }
swapped c me m Take e slot s = record { slots = put s.slots slot (Some (received c e m)); kept = s.kept; sent = s.sent; used = put s.used e.peer (suc (s.used e.peer)) }

-- one operation of rank `me`, with the message that it takes, if it takes one
abbrev pub step : {T : Type 0} → Carrier T → ℕ → Option (MessageView T) → Op → Local T → Local T
step c me m (Load tile slot) s = record { slots = put s.slots slot (Some (whole c tile)); kept = s.kept; sent = s.sent; used = s.used }
step c me m (Blank tile slot) s = record { slots = put s.slots slot (Some (blank_of c tile 0 (c.size tile))); kept = s.kept; sent = s.sent; used = s.used }
step c me m (Cut slot at into) s = record { slots = cut_slots c slot at into (s.slots slot) s.slots; kept = s.kept; sent = s.sent; used = s.used }
step c me m (Join front back into) s = record { slots = join_slots c front back into (s.slots front) (s.slots back) s.slots; kept = s.kept; sent = s.sent; used = s.used }
step c me m (Swap exchange slot) s = swapped c me m exchange.kind exchange slot s
step c me m (Keep slot) s = record { slots = s.slots; kept = with_kept s.kept (s.slots slot); sent = s.sent; used = s.used }

abbrev pub taken_by : {T : Type 0} → (ℕ → List (MessageView T)) → (ℕ → ℕ) → Kind → ℕ → Option (MessageView T)
taken_by taken used Send peer = None
taken_by taken used Take peer = slice_get (taken peer) (used peer)

-- the message that an operation takes: the next one of its peer
abbrev pub message_for : {T : Type 0} → (ℕ → List (MessageView T)) → (ℕ → ℕ) → Op → Option (MessageView T)
message_for taken used (Load tile slot) = None
message_for taken used (Blank tile slot) = None
message_for taken used (Cut slot at into) = None
message_for taken used (Join front back into) = None
message_for taken used (Swap exchange slot) = taken_by taken used exchange.kind exchange.peer
message_for taken used (Keep slot) = None

-- the local run of rank `me` from a state on, with the messages taken from each peer
abbrev pub run : {T : Type 0} → Carrier T → ℕ → (ℕ → List (MessageView T)) → List Op → Local T → Local T
run c me taken [] s = s
run c me taken (op ∷ ops) s = run c me taken ops (step c me (message_for taken s.used op) op s)

-- the local run up to a place of the program
abbrev pub upto : {T : Type 0} → Carrier T → ℕ → (ℕ → List (MessageView T)) → List Op → ℕ → Local T
upto c me taken ops n = run c me taken (take n ops) fresh
