-- Places: how many ranks serve each tile, given how many contribute to it.
use Rattle.std.specs.Prelude.{◌≡◌, ℕ, zero, suc, ◌+◌, ◌-◌, ◌*◌, ◌<◌, ◌≤◌, min, Bool, not, ◌&&◌, nat_lt, List, map, length, get_or, set, sum, find, Option, Some, None}
use Rattle.std.specs.List.{list_any, range_with_len}

-- tile t has more contributors than places
abbrev pub wants : List ℕ → List ℕ → ℕ → Bool
wants counts places t = nat_lt (get_or places t 0) (get_or counts t 0)

-- tile u has more contributors a place than tile t
abbrev pub is_fuller : List ℕ → List ℕ → ℕ → ℕ → Bool
is_fuller counts places u t = nat_lt (get_or counts t 0 * get_or places u 0) (get_or counts u 0 * get_or places t 0)

-- some tile that wants a place has more contributors a place than tile t
abbrev pub yields : List ℕ → List ℕ → ℕ → Bool
yields counts places t = list_any (λ u. wants counts places u && is_fuller counts places u t) (range_with_len 0 (length counts))

-- the lowest tile that wants a place and yields it to no other
abbrev pub next_tile : List ℕ → List ℕ → Option ℕ
next_tile counts places = find (λ t. wants counts places t && not (yields counts places t)) (range_with_len 0 (length counts))

-- one place more for this tile
abbrev pub place_added : List ℕ → Option ℕ → List ℕ
place_added places None = places
place_added places (Some t) = set places t (get_or places t 0 + 1)

abbrev pub place_given : List ℕ → List ℕ → List ℕ
place_given counts places = place_added places (next_tile counts places)

-- one place for each tile to which some rank contributes
abbrev pub first_places : List ℕ → List ℕ
first_places counts = map (λ c. min c 1) counts

-- the places when so many more are given
abbrev pub places_after : List ℕ → ℕ → List ℕ
places_after counts zero = first_places counts
places_after counts (suc n) = place_given counts (places_after counts n)

-- the places of so many ranks
abbrev pub places_of : ℕ → List ℕ → List ℕ
places_of ranks counts = places_after counts (ranks - sum (first_places counts))

-- the places are shared out fairly to so many ranks
pub record AreShared (ranks : ℕ) (counts places : List ℕ) : Type 0 where
  pub each : length places ≡ length counts
  pub within : sum places ≤ ranks
  -- a tile with contributors has a place, and no more places than contributors
  pub some : (t : ℕ) → 0 < get_or counts t 0 → 0 < get_or places t 0
  pub few : (t : ℕ) → get_or places t 0 ≤ get_or counts t 0
  -- none is held back while a tile wants one
  pub full : (u : ℕ) → get_or places u 0 < get_or counts u 0 → sum places ≡ ranks
  -- without its last place a tile t would have at least as many contributors a place as tile u, which wants one
  pub fair : (t u : ℕ) → get_or places u 0 < get_or counts u 0 → get_or counts u 0 * (get_or places t 0 - 1) ≤ get_or counts t 0 * get_or places u 0

-- the places of any counts are, if each tile with contributors can have one
abbrev pub PlacesAreShared : Type 0
PlacesAreShared = (ranks : ℕ) (counts : List ℕ) → sum (first_places counts) ≤ ranks → AreShared ranks counts (places_of ranks counts)
