-- Whether an operation fits where it is of no matter which rank displays a tile.
use Rattle.std.specs.Prelude.{ℕ, ◌<◌, ◌≢◌, List, [], ◌∷◌, length, Option, Some, None}
use Rattle.icet_model.specs.declared.exchange.Op.{Op}
use Rattle.icet_model.specs.declared.exchange.Op.TheVariants.{Load, Blank, Cut, Join, Swap, Keep}
use Rattle.icet_model.specs.Run.{Carrier, MessageView, Local, step, message_for}
use Rattle.icet_model.specs.Fit.{Tiles, Shape, shape_at, FitsCut, FitsJoin, FitsSwap}

abbrev pub IsFilled : {P : Type 0} → Option P → Type 0
IsFilled None = ⊥
IsFilled (Some p) = Unit {0}

-- tiles of these sizes, whoever displays them
abbrev pub undisplayed : List ℕ → Tiles
undisplayed sizes = record { sizes = sizes; displays = [] }

-- an operation fits as in a plan, but a Keep asks for a filled slot alone
abbrev pub FitsAnyDisplay : List ℕ → Op → (ℕ → Option Shape) → Type 0
FitsAnyDisplay sizes (Load tile slot) at_slot = tile < length sizes
FitsAnyDisplay sizes (Blank tile slot) at_slot = tile < length sizes
FitsAnyDisplay sizes (Cut slot at into) at_slot = (slot ≢ into) × FitsCut at (at_slot slot)
FitsAnyDisplay sizes (Join front back into) at_slot = (front ≢ back) × FitsJoin (at_slot front) (at_slot back)
FitsAnyDisplay sizes (Swap e slot) at_slot = FitsSwap (undisplayed sizes) e.kind e (at_slot slot)
FitsAnyDisplay sizes (Keep slot) at_slot = IsFilled (at_slot slot)

-- each operation of a run fits where it comes
abbrev pub AllFitAnyDisplay : {T : Type 0} → List ℕ → Carrier T → ℕ → (ℕ → List (MessageView T)) → List Op → Local T → Type 0
AllFitAnyDisplay sizes c me taken [] s = Unit {0}
AllFitAnyDisplay sizes c me taken (op ∷ ops) s = FitsAnyDisplay sizes op (shape_at s) × AllFitAnyDisplay sizes c me taken ops (step c me (message_for taken s.used op) op s)
