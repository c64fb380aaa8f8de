-- What the builder of the sequential strategy is given, and its legs.
use Rattle.std.specs.Prelude.{◌≡◌, ℕ, ◌*◌, ◌<◌, ◌^◌, List, map, length}
use Rattle.icet_model.specs.declared.bracket.Bracket.TheVariants.{Leaf}
use Rattle.icet_legs.specs.InRow.{TileLegView, tile_at}
use Rattle.icet_legs.specs.Leg.{IsLegOf}
use Rattle.icet_legs.specs.Team.{team_of}
use Rattle.icet_legs.specs.TileStrategy.{TileStrategy}
use Rattle.icet_multi.specs.Direct.{TileView}
use Rattle.icet_multi.specs.Rules.{tile_of}

-- a tile that one of so many ranks displays, of not too many pixels
pub record IsShown (ranks : ℕ) (x : TileView) : Type 0 where
  pub display : x.display < ranks
  pub small : x.size < 2 ^ 31

-- tile t and its leg, in which all ranks of the order take part
pub record IsTileLegOf (s : TileStrategy) (order : List ℕ) (t : ℕ) (x : TileView) (leg : TileLegView) : Type 0 where
  pub size : leg.size ≡ x.size
  pub display : leg.display ≡ x.display
  pub participants : leg.participants ≡ order
  pub is_leg : IsLegOf s (team_of order (map (λ r. Leaf r) order) t x.size (t * s.rounds (length order))) x.display leg.programs leg.bracket leg.rounds

-- the legs of the first `count` tiles
pub record AreLegsOf (s : TileStrategy) (order : List ℕ) (tiles : List TileView) (count : ℕ) (legs : List TileLegView) : Type 0 where
  pub many : length legs ≡ count
  pub are : (t : ℕ) → t < count → IsTileLegOf s order t (tile_of tiles t) (tile_at legs t)
