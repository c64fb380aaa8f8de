-- Small programs, written by hand, on which it is shown what is no plan.
use Rattle.std.specs.Prelude.{ℕ, List, [], ◌∷◌}
use Rattle.icet_model.specs.declared.bracket.Bracket.TheVariants.{Leaf}
use Rattle.icet_model.specs.declared.exchange.Kind.TheVariants.{Send, Take}
use Rattle.icet_model.specs.declared.exchange.Exchange.{Exchange}
use Rattle.icet_model.specs.declared.exchange.Op.{Op}
use Rattle.icet_model.specs.declared.exchange.Op.TheVariants.{Load, Keep}
use Rattle.icet_model.specs.Plan.{PlanView}

-- a send of the positions from lo up to hi
abbrev pub send_part : ℕ → ℕ → ℕ → ℕ → ℕ → Exchange
send_part round peer tile lo hi = record { round = round; kind = Send; peer = peer; tile = tile; lo = lo; hi = hi }

abbrev pub take_part : ℕ → ℕ → ℕ → ℕ → ℕ → Exchange
take_part round peer tile lo hi = record { round = round; kind = Take; peer = peer; tile = tile; lo = lo; hi = hi }

abbrev pub send : ℕ → ℕ → ℕ → ℕ → Exchange
send round peer tile hi = send_part round peer tile 0 hi

abbrev pub take : ℕ → ℕ → ℕ → ℕ → Exchange
take round peer tile hi = take_part round peer tile 0 hi

-- one rank with this program, and one tile of one position
abbrev pub one_tile : List Op → PlanView
one_tile ops = record { tiles = record { sizes = 1 ∷ []; displays = 0 ∷ [] }; brackets = Leaf 0 ∷ []; programs = ops ∷ [] }

-- two ranks, of which rank 0 shows its own image where that of rank 1 is said
abbrev pub another_leaf : PlanView
another_leaf = record { tiles = record { sizes = 1 ∷ []; displays = 0 ∷ [] }; brackets = Leaf 1 ∷ []; programs = (Load 0 0 ∷ Keep 0 ∷ []) ∷ [] ∷ [] }

-- two ranks that each take in round 0 before they send
abbrev pub takes_before_sends : List (List Exchange)
takes_before_sends = (take 0 1 0 1 ∷ send 0 1 0 1 ∷ []) ∷ (send 0 0 0 1 ∷ take 0 0 0 1 ∷ []) ∷ []

-- two messages of one pair in round 0
abbrev pub twice_a_round : List (List Exchange)
twice_a_round = (send 0 1 0 1 ∷ send 0 1 1 1 ∷ []) ∷ (take 0 0 0 1 ∷ take 0 0 1 1 ∷ []) ∷ []
