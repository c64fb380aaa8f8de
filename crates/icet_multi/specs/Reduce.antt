-- The strategy reduce: each tile is joined by a group of its own, and all groups work at once. In round 0 each contributor
-- hands its whole image to the member of its block, which folds the block's images from the left; from round 1 on the
-- members join these folds by a strategy for one tile.
use Rattle.std.specs.Prelude.{ℕ, cond, nat_lt, List, [], ◌++◌, map, length, get_or}
use Rattle.std.specs.List.{range_with_len}
use Rattle.icet_model.specs.declared.bracket.Bracket.{Bracket}
use Rattle.icet_model.specs.declared.bracket.Bracket.TheVariants.{Empty}
use Rattle.icet_model.specs.declared.exchange.Exchange.{Exchange}
use Rattle.icet_model.specs.Exchange.{exchanges}
use Rattle.icet_model.specs.Flow.{Messages}
use Rattle.icet_plan.specs.Each.{each}
use Rattle.icet_groups.specs.Blocks.{block_of}
use Rattle.icet_groups.specs.Seats.{groups_of}
use Rattle.icet_groups.specs.Tiles.{AreTiles, TileView}
use Rattle.icet_legs.specs.Team.{Team, by_pos, place_in, team_of}
use Rattle.icet_legs.specs.TileStrategy.{TileStrategy, messages_of, ops_of}
use Rattle.icet_multi.specs.declared.settings.Single.{Single}
use Rattle.icet_multi.specs.Direct.{messages_for, sends_for, takes_for, tile_bracket}
use Rattle.icet_multi.specs.Rule.{JoinsInOrder, Rule, strategy_of, tile_of}

-- Below, `groups` has the group of each tile.

-- the block of member j of a group, as a tile of its own: the member stands for its display
abbrev pub block_tile : TileView → List ℕ → ℕ → TileView
block_tile x group j = record { size = x.size; display = get_or group j 0; contributors = block_of x.contributors (length group) j }

-- what each block of each tile gives, tile by tile; the number is the tile's
abbrev pub by_block : {A : Type 0} → (ℕ → TileView → List A) → List TileView → List (List ℕ) → List A
by_block of_block tiles groups = each (λ t. each (λ j. of_block t (block_tile (tile_of tiles t) (get_or groups t []) j)) (length (get_or groups t []))) (length tiles)

-- the folds of a tile's blocks
abbrev pub block_brackets : TileView → List ℕ → List Bracket
block_brackets x group = map (λ j. tile_bracket (block_tile x group j)) (range_with_len 0 (length group))

-- the bracket of a tile over the folds of its blocks; without contributors it is empty
abbrev pub reduce_bracket : TileStrategy → TileView → List ℕ → Bracket
reduce_bracket s x group = cond (nat_lt 0 (length x.contributors)) (s.bracket (block_brackets x group)) Empty

-- the brackets of all tiles
abbrev pub reduce_brackets : TileStrategy → List TileView → List (List ℕ) → List Bracket
reduce_brackets s tiles groups = map (λ t. reduce_bracket s (tile_of tiles t) (get_or groups t [])) (range_with_len 0 (length tiles))

-- the group of tile t as a team: its members by position, their leaves the folds of their blocks, from round 1 on
abbrev pub group_team : List TileView → List (List ℕ) → ℕ → Team
group_team tiles groups t = team_of (get_or groups t []) (block_brackets (tile_of tiles t) (get_or groups t [])) t (tile_of tiles t).size 1

-- where the display of tile t stands in its group
abbrev pub display_in : List TileView → List (List ℕ) → ℕ → ℕ
display_in tiles groups t = by_pos 0 (λ p. p) (place_in (get_or groups t []) (tile_of tiles t).display)

-- the messages of round 0, and those of the groups behind them
abbrev pub reduce_messages : TileStrategy → List TileView → List (List ℕ) → Messages Bracket
reduce_messages s tiles groups q r = by_block (λ t x. messages_for t x q r) tiles groups ++ each (λ t. messages_of s (group_team tiles groups t) (display_in tiles groups t) q r) (length tiles)

-- the exchanges of rank r: in round 0 the sends, tile by tile, and then the takes, and behind them those of its group
abbrev pub reduce_exchanges : TileStrategy → List TileView → List (List ℕ) → ℕ → List Exchange
reduce_exchanges s tiles groups r = (by_block (λ t x. sends_for t x r) tiles groups ++ by_block (λ t x. takes_for t x r) tiles groups) ++ each (λ t. exchanges (ops_of s (group_team tiles groups t) (display_in tiles groups t) r)) (length tiles)

-- each tile is joined by a group of its own, by one strategy for a tile
abbrev pub reduce_rule : TileStrategy → Rule
reduce_rule s = record {
  brackets = λ order tiles. reduce_brackets s tiles (groups_of (length order) tiles);
  messages = λ order tiles. reduce_messages s tiles (groups_of (length order) tiles);
  exchanges = λ order tiles. reduce_exchanges s tiles (groups_of (length order) tiles);
}

-- each bracket joins the tile's contributors in their order
abbrev pub ReduceJoinsInOrder : Type 0
ReduceJoinsInOrder = (single : Single) (k : ℕ) (order : List ℕ) (tiles : List TileView) → AreTiles (length order) tiles → JoinsInOrder (reduce_rule (strategy_of single k)) order tiles
