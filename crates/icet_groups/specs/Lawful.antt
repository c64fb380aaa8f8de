-- What groups and blocks are, in plain words.
use Rattle.std.specs.Prelude.{◌≡◌, ℕ, ◌<◌, ◌≤◌, true, List, [], length, get_or, sum, AllPairs}
use Rattle.std.specs.List.{flat_map, range_with_len}
use Rattle.icet_groups.specs.Blocks.{block_of}
use Rattle.icet_groups.specs.Places.{first_places, places_of}
use Rattle.icet_groups.specs.Seats.{counts_of, groups_of, tile_at}
use Rattle.icet_groups.specs.Tiles.{AreTiles, TileView, has}

-- groups of so many ranks for these tiles, with these places
pub record AreGroups (ranks : ℕ) (tiles : List TileView) (places : List ℕ) (groups : List (List ℕ)) : Type 0 where
  pub each : length groups ≡ length tiles
  -- a group has as many ranks as places
  pub many : (t : ℕ) → t < length tiles → length (get_or groups t []) ≡ get_or places t 0
  -- its ranks ascend, and are ranks
  pub ascend : (t : ℕ) → AllPairs (λ a b. a < b) (get_or groups t [])
  pub within : (t r : ℕ) → has r (get_or groups t []) ≡ true → r < ranks
  -- no rank is in two groups
  pub apart : (t u r : ℕ) → has r (get_or groups t []) ≡ true → has r (get_or groups u []) ≡ true → t ≡ u
  -- the display of a tile with contributors is in the tile's group
  pub shown : (t : ℕ) → t < length tiles → 0 < length (tile_at tiles t).contributors → has (tile_at tiles t).display (get_or groups t []) ≡ true

-- lawful tiles have such groups
abbrev pub GroupsAreLawful : Type 0
GroupsAreLawful = (ranks : ℕ) (tiles : List TileView) → AreTiles ranks tiles → AreGroups ranks tiles (places_of ranks (counts_of tiles)) (groups_of ranks tiles)

-- each tile with contributors can have a place
abbrev pub EachCanHaveAPlace : Type 0
EachCanHaveAPlace = (ranks : ℕ) (tiles : List TileView) → AreTiles ranks tiles → sum (first_places (counts_of tiles)) ≤ ranks

-- the blocks of a group of at most as many members as contributors: none is empty, and one behind the other they are
-- the contributors, each of which stands in one block
pub record AreBlocks (contributors : List ℕ) (g : ℕ) : Type 0 where
  pub some : (j : ℕ) → j < g → 0 < length (block_of contributors g j)
  pub whole : flat_map (block_of contributors g) (range_with_len 0 g) ≡ contributors

abbrev pub BlocksAreLawful : Type 0
BlocksAreLawful = (contributors : List ℕ) (g : ℕ) → 0 < g → g ≤ length contributors → AreBlocks contributors g
