-- The next tile to get a place, as far as the tiles are looked at.
use Rattle.std.specs.Prelude.{◌≡◌, ℕ, ◌<◌, Bool, true, false, List, Option, Some, None}
use Rattle.icet_groups.specs.Places.{is_fuller, wants}

-- of the first i tiles that want a place, tile t has the most contributors a place, and those below it have fewer
pub record IsBest (counts places : List ℕ) (i t : ℕ) : Type 0 where
  pub within : t < i
  pub wants_one : wants counts places t ≡ true
  pub most : (u : ℕ) → u < i → wants counts places u ≡ true → is_fuller counts places u t ≡ false
  pub lowest : (u : ℕ) → u < t → wants counts places u ≡ true → is_fuller counts places t u ≡ true

-- the first i tiles are looked at, and this is the best of them, if one wants a place
abbrev pub AreScanned : List ℕ → List ℕ → ℕ → Option ℕ → Type 0
AreScanned counts places i None = (u : ℕ) → u < i → wants counts places u ≡ false
AreScanned counts places i (Some t) = IsBest counts places i t

-- there is no best tile, or tile t has more contributors a place
abbrev pub is_ahead : List ℕ → List ℕ → Option ℕ → ℕ → Bool
is_ahead counts places None t = true
is_ahead counts places (Some best) t = is_fuller counts places t best
