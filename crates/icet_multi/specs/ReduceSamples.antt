-- Two walls of two displays, and the traffic of a rule as lines of numbers.
use Rattle.std.specs.Prelude.{ℕ, List, [], ◌∷◌, map}
use Rattle.std.specs.List.{flat_map, range_with_len}
use Rattle.icet_model.specs.declared.bracket.Bracket.{Bracket}
use Rattle.icet_model.specs.Traffic.{PairTraffic, entries}
use Rattle.icet_groups.specs.Tiles.{TileView}
use Rattle.icet_tree.specs.Tree.{tree_strategy}
use Rattle.icet_multi.specs.Rules.{Rule}
use Rattle.icet_multi.specs.Samples.{line}
use Rattle.icet_multi.specs.Reduce.{reduce_rule}

-- the messages of a rule in ascending order, by from and to and then by round
abbrev pub lines_by : Rule → ℕ → List TileView → List (List ℕ)
lines_by rule ranks tiles = flat_map (λ (p : PairTraffic Bracket). map (line p) p.messages) (entries ranks (rule.messages (range_with_len 0 ranks) tiles))

-- reduce with the tree
abbrev pub by_tree : Rule
by_tree = reduce_rule tree_strategy

-- the brackets of a rule
abbrev pub brackets_by : Rule → ℕ → List TileView → List Bracket
brackets_by rule ranks tiles = rule.brackets (range_with_len 0 ranks) tiles

abbrev pub shown : ℕ → ℕ → List ℕ → TileView
shown size display contributors = record { size = size; display = display; contributors = contributors }

-- three ranks draw in the first tile and the fourth in the second
abbrev pub uneven_wall : List TileView
uneven_wall = shown 4 0 (0 ∷ 1 ∷ 2 ∷ []) ∷ shown 4 1 (3 ∷ []) ∷ []

-- two of three ranks draw in each tile, and each display is the one that draws nothing in its tile
abbrev pub crossed_wall : List TileView
crossed_wall = shown 1 1 (0 ∷ 2 ∷ []) ∷ shown 1 0 (1 ∷ 2 ∷ []) ∷ []

-- the messages of the two walls, reduced with the tree
abbrev pub uneven_lines : List (List ℕ)
uneven_lines = lines_by by_tree 4 uneven_wall

abbrev pub crossed_lines : List (List ℕ)
crossed_lines = lines_by by_tree 3 crossed_wall
