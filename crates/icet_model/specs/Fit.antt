-- Whether an operation fits: it finds each slot that it uses filled, with fitting tile and range.
use Rattle.std.specs.Prelude.{◌≡◌, ◌≢◌, ℕ, ◌<◌, ◌≤◌, List, [], ◌∷◌, length, get_or, Option, Some, None, slice_get, option_map}
use Rattle.icet_model.specs.declared.exchange.Kind.{Kind}
use Rattle.icet_model.specs.declared.exchange.Kind.TheVariants.{Send, Take}
use Rattle.icet_model.specs.declared.exchange.Exchange.{Exchange}
use Rattle.icet_model.specs.declared.exchange.Op.{Op}
use Rattle.icet_model.specs.declared.exchange.Op.TheVariants.{Load, Blank, Cut, Join, Swap, Keep}
use Rattle.icet_model.specs.Run.{Carrier, Piece, MessageView, Local, step, message_for}

-- the tiles of a plan: how many positions each has, and which rank displays it
pub record Tiles : Type 0 where
  pub sizes : List ℕ
  pub displays : List ℕ

-- a piece without its content
pub record Shape : Type 0 where
  pub tile : ℕ
  pub lo : ℕ
  pub hi : ℕ

abbrev pub shape_of : {T : Type 0} → Piece T → Shape
shape_of p = record { tile = p.tile; lo = p.lo; hi = p.hi }

abbrev pub shape_at : {T : Type 0} → Local T → ℕ → Option Shape
shape_at s k = option_map shape_of (s.slots k)

-- the position lies in the piece's range
abbrev pub FitsCut : ℕ → Option Shape → Type 0
FitsCut at None = ⊥
FitsCut at (Some h) = (h.lo ≤ at) × (at ≤ h.hi)

-- both pieces are there, with the same tile and range
abbrev pub FitsJoin : Option Shape → Option Shape → Type 0
FitsJoin (Some g) (Some h) = g ≡ h
FitsJoin (Some g) None = ⊥
FitsJoin None h = ⊥

-- the piece has the exchange's tile and range
abbrev pub FitsSend : Exchange → Option Shape → Type 0
FitsSend e None = ⊥
FitsSend e (Some h) = h ≡ record { tile = e.tile; lo = e.lo; hi = e.hi }

-- the range is one of a tile of the plan
abbrev pub FitsTake : Tiles → Exchange → Type 0
FitsTake tiles e = (e.tile < length tiles.sizes) × (e.lo ≤ e.hi) × (e.hi ≤ get_or tiles.sizes e.tile 0)

abbrev pub FitsSwap : Tiles → Kind → Exchange → Option Shape → Type 0
FitsSwap tiles Send e h = FitsSend e h
FitsSwap tiles Take e h = FitsTake tiles e

-- the piece is of a tile that this rank displays
abbrev pub FitsKeep : Tiles → ℕ → Option Shape → Type 0
FitsKeep tiles me None = ⊥
FitsKeep tiles me (Some h) = slice_get tiles.displays h.tile ≡ Some me

-- an operation of rank `me` fits, given the shapes in the slots
abbrev pub Fits : Tiles → ℕ → Op → (ℕ → Option Shape) → Type 0
Fits tiles me (Load tile slot) at_slot = tile < length tiles.sizes
Fits tiles me (Blank tile slot) at_slot = tile < length tiles.sizes
Fits tiles me (Cut slot at into) at_slot = (slot ≢ into) × FitsCut at (at_slot slot)
Fits tiles me (Join front back into) at_slot = (front ≢ back) × FitsJoin (at_slot front) (at_slot back)
Fits tiles me (Swap e slot) at_slot = FitsSwap tiles e.kind e (at_slot slot)
Fits tiles me (Keep slot) at_slot = FitsKeep tiles me (at_slot slot)

-- each operation of a run fits where it comes
abbrev pub AllFit : {T : Type 0} → Tiles → Carrier T → ℕ → (ℕ → List (MessageView T)) → List Op → Local T → Type 0
AllFit tiles c me taken [] s = Unit {0}
AllFit tiles c me taken (op ∷ ops) s = Fits tiles me op (shape_at s) × AllFit tiles c me taken ops (step c me (message_for taken s.used op) op s)
