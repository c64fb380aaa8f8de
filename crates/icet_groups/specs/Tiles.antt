-- The tiles of a wall of displays, as a strategy sees them.
use Rattle.std.specs.Prelude.{◌≢◌, ℕ, ◌<◌, Bool, false, ◌||◌, ◌==◌, List, [], ◌∷◌, AllPairs}
use Rattle.std.specs.List.{AllByRecursion}

-- a tile: how many pixels it has, which rank shows it, and the ranks that contribute to it, in their order
pub record TileView : Type 0 where
  pub size : ℕ
  pub display : ℕ
  pub contributors : List ℕ

-- the number is one of the list
abbrev pub has : ℕ → List ℕ → Bool
has r [] = false
has r (c ∷ cs) = (c == r) || has r cs

-- the tile's ranks are some of so many, and no contributor stands twice
pub record IsTile (ranks : ℕ) (x : TileView) : Type 0 where
  pub display : x.display < ranks
  pub contributors : AllByRecursion (λ c. c < ranks) x.contributors
  pub distinct : AllPairs (λ a b. a ≢ b) x.contributors

-- tiles of so many ranks, each shown by a rank of its own
pub record AreTiles (ranks : ℕ) (tiles : List TileView) : Type 0 where
  pub each : AllByRecursion (IsTile ranks) tiles
  pub displays : AllPairs (λ x y. x.display ≢ y.display) tiles
