-- Where in a program its exchanges stand.
use Rattle.std.specs.Prelude.{ℕ, suc, List, [], ◌∷◌, ◌++◌, Option, Some, None, slice_get}
use Rattle.std.specs.Option.{option_and_then}
use Rattle.icet_model.specs.declared.exchange.Exchange.{Exchange}
use Rattle.icet_model.specs.declared.exchange.Op.{Op}
use Rattle.icet_model.specs.declared.exchange.Op.TheVariants.{Load, Blank, Cut, Join, Swap, Keep}

-- the place, if the operation there is an exchange
abbrev pub place_of : ℕ → Op → List ℕ
place_of place (Load tile slot) = []
place_of place (Blank tile slot) = []
place_of place (Cut slot at into) = []
place_of place (Join front back into) = []
place_of place (Swap exchange slot) = place ∷ []
place_of place (Keep slot) = []

abbrev pub places_from : ℕ → List Op → List ℕ
places_from first [] = []
places_from first (op ∷ ops) = place_of first op ++ places_from (suc first) ops

-- the places of a program's exchanges, in its order
abbrev pub places : List Op → List ℕ
places ops = places_from 0 ops

abbrev pub swap_of : Op → Option Exchange
swap_of (Load tile slot) = None
swap_of (Blank tile slot) = None
swap_of (Cut slot at into) = None
swap_of (Join front back into) = None
swap_of (Swap exchange slot) = Some exchange
swap_of (Keep slot) = None

-- the exchange at a place of the program, if one is there
abbrev pub swap_at : List Op → ℕ → Option Exchange
swap_at ops place = option_and_then swap_of (slice_get ops place)
