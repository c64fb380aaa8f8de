-- The traffic of the sequential strategy for a tile or two, as lines of numbers.
use Rattle.std.specs.Prelude.{ℕ, Bool, ◌&&◌, ◌==◌, List, [], ◌∷◌, filter, get_or, map}
use Rattle.std.specs.List.{flat_map, range_with_len}
use Rattle.icet_model.specs.declared.bracket.Bracket.{Bracket}
use Rattle.icet_model.specs.declared.bracket.Bracket.TheVariants.{Leaf, Pair}
use Rattle.icet_model.specs.Run.{MessageView}
use Rattle.icet_model.specs.Traffic.{PairTraffic, entries}
use Rattle.icet_legs.specs.TileStrategy.{TileStrategy}
use Rattle.icet_bswap.specs.Bswap.{bswap_strategy}
use Rattle.icet_radixk.specs.Radixk.{radix_strategy}
use Rattle.icet_multi.specs.Direct.{TileView}
use Rattle.icet_multi.specs.Rules.{sequential_rule}

-- a message: from, to, round, tile, lo and hi
abbrev pub line : PairTraffic Bracket → MessageView Bracket → List ℕ
line p m = p.from ∷ p.to ∷ m.round ∷ m.piece.tile ∷ m.piece.lo ∷ m.piece.hi ∷ []

-- the messages of so many ranks in ascending order, by from and to and then by round
abbrev pub lines : TileStrategy → ℕ → List TileView → List (List ℕ)
lines s ranks tiles = flat_map (λ (p : PairTraffic Bracket). map (line p) p.messages) (entries ranks ((sequential_rule s).messages (range_with_len 0 ranks) tiles))

abbrev pub tile : ℕ → ℕ → TileView
tile size display = record { size = size; display = display; contributors = [] }

abbrev pub leaves : ℕ → List Bracket
leaves ranks = map (λ r. Leaf r) (range_with_len 0 ranks)

-- a line from its numbers, and the lines of one rank
abbrev pub m : ℕ → ℕ → ℕ → ℕ → ℕ → ℕ → List ℕ
m from to round tile lo hi = from ∷ to ∷ round ∷ tile ∷ lo ∷ hi ∷ []

abbrev pub from_rank : ℕ → List (List ℕ) → List (List ℕ)
from_rank rank all = filter (λ l. get_or l 0 0 == rank) all

-- two ranks, each of which displays one pixel
abbrev pub pair_of_tiles : List TileView
pair_of_tiles = tile 1 0 ∷ tile 1 1 ∷ []

-- binary-swap of five ranks on a tile of seven pixels, and of three whose second displays four
abbrev pub five_swap : List (List ℕ)
five_swap = lines bswap_strategy 5 (tile 7 0 ∷ [])

abbrev pub three_swap : List (List ℕ)
three_swap = lines bswap_strategy 3 (tile 4 1 ∷ [])

-- radix-k of four ranks in one group
abbrev pub four_group : List (List ℕ)
four_group = lines (radix_strategy 4) 4 (tile 4 0 ∷ [])

-- what these ranks of eight hand in for a tile of three pixels in the last round of binary-swap
abbrev pub collected_from : (ℕ → Bool) → List (List ℕ)
collected_from some = filter (λ l. (get_or l 2 0 == 4) && some (get_or l 0 0)) (lines bswap_strategy 8 (tile 3 0 ∷ []))

abbrev pub four_bracket : Bracket
four_bracket = Pair (Pair (Pair (Leaf 0) (Leaf 1)) (Leaf 2)) (Leaf 3)

abbrev pub five_bracket : Bracket
five_bracket = Pair (Pair (Pair (Leaf 0) (Leaf 1)) (Leaf 2)) (Pair (Leaf 3) (Leaf 4))

abbrev pub six_bracket : Bracket
six_bracket = Pair (Pair (Pair (Leaf 0) (Leaf 1)) (Leaf 2)) (Pair (Pair (Leaf 3) (Leaf 4)) (Leaf 5))
