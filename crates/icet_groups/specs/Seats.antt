-- Seats: which rank is in the group of which tile.
use Rattle.std.specs.Prelude.{ℕ, zero, suc, ◌-◌, Bool, false, cond, ◌&&◌, ◌==◌, nat_lt, is_none, List, [], map, length, get_or, set, replicate, filter, find, Option, Some, None}
use Rattle.std.specs.List.{range_with_len}
use Rattle.std.specs.Option.{option_or}
use Rattle.icet_groups.specs.Places.{places_of}
use Rattle.icet_groups.specs.Tiles.{TileView, has}

-- Below, `seats` has for each rank the tile whose group it is in, if it is in one.

abbrev pub tile_at : List TileView → ℕ → TileView
tile_at tiles t = get_or tiles t (record { size = 0; display = 0; contributors = [] })

abbrev pub is_free : List (Option ℕ) → ℕ → Bool
is_free seats r = is_none (get_or seats r None)

abbrev pub ranks_in : List (Option ℕ) → List ℕ
ranks_in seats = range_with_len 0 (length seats)

-- the display of a tile with contributors joins the tile's group
abbrev pub display_seated : ℕ → TileView → List (Option ℕ) → List (Option ℕ)
display_seated t x seats = cond (nat_lt 0 (length x.contributors)) (set seats x.display (Some t)) seats

-- the displays of the first tiles, and no other rank, are in a group
abbrev pub displays_seated : ℕ → List TileView → ℕ → List (Option ℕ)
displays_seated ranks tiles zero = replicate ranks None
displays_seated ranks tiles (suc t) = display_seated t (tile_at tiles t) (displays_seated ranks tiles t)

-- the lowest of these contributors that is in no group, or, where each is in one, the lowest rank that is in none
abbrev pub newcomer : List ℕ → List (Option ℕ) → Option ℕ
newcomer contributors seats = option_or (find (λ r. is_free seats r && has r contributors) (ranks_in seats)) (find (is_free seats) (ranks_in seats))

abbrev pub seated : ℕ → Option ℕ → List (Option ℕ) → List (Option ℕ)
seated t None seats = seats
seated t (Some r) seats = set seats r (Some t)

-- so many newcomers join the group of tile t, one after another
abbrev pub filled : ℕ → List ℕ → ℕ → List (Option ℕ) → List (Option ℕ)
filled t contributors zero seats = seats
filled t contributors (suc n) seats = filled t contributors n (seated t (newcomer contributors seats) seats)

-- the groups of the first tiles are filled up to these places
abbrev pub seats_after : ℕ → List TileView → List ℕ → ℕ → List (Option ℕ)
seats_after ranks tiles places zero = displays_seated ranks tiles (length tiles)
seats_after ranks tiles places (suc t) = filled t (tile_at tiles t).contributors (get_or places t 0 - 1) (seats_after ranks tiles places t)

abbrev pub counts_of : List TileView → List ℕ
counts_of tiles = map (λ x. length x.contributors) tiles

abbrev pub seats_of : ℕ → List TileView → List (Option ℕ)
seats_of ranks tiles = seats_after ranks tiles (places_of ranks (counts_of tiles)) (length tiles)

-- the seat is one of tile t
abbrev pub is_of : ℕ → Option ℕ → Bool
is_of t None = false
is_of t (Some u) = u == t

-- the ranks in the group of tile t, ascending
abbrev pub group_in : List (Option ℕ) → ℕ → List ℕ
group_in seats t = filter (λ r. is_of t (get_or seats r None)) (ranks_in seats)

abbrev pub groups_in : List (Option ℕ) → ℕ → List (List ℕ)
groups_in seats count = map (group_in seats) (range_with_len 0 count)

-- the group of each tile
abbrev pub groups_of : ℕ → List TileView → List (List ℕ)
groups_of ranks tiles = groups_in (seats_of ranks tiles) (length tiles)
