-- What a strategy is given: the tiles of a layout with their contributors.
use Rattle.std.specs.Prelude.{◌≡◌, ℕ, ◌*◌, Bool, List, [], ◌∷◌, filter, slice_get, Some}
use Rattle.icet_model.specs.Tiles.{TileView as AreaTile}
use Rattle.icet_multi.specs.Direct.{TileView}

-- the tiles of a layout, each with the ranks that contribute to it
abbrev pub tile_ranks : List AreaTile → List (List ℕ) → List TileView
tile_ranks [] who = []
tile_ranks (tile ∷ tiles) [] = []
tile_ranks (tile ∷ tiles) (ranks ∷ who) = record { size = tile.area.w * tile.area.h; display = tile.display; contributors = ranks } ∷ tile_ranks tiles who

-- this is tile t with its contributors
pub record IsTileAt (layout : List AreaTile) (who : List (List ℕ)) (t : ℕ) (x : TileView) : Type 0 where
  pub tile : AreaTile
  pub ranks : List ℕ
  pub is_tile : slice_get layout t ≡ Some tile
  pub are_ranks : slice_get who t ≡ Some ranks
  pub is : x ≡ record { size = tile.area.w * tile.area.h; display = tile.display; contributors = ranks }

-- the list is the order with some ranks left out
pub record KeepsOrder (order list : List ℕ) : Type 0 where
  pub keeps : ℕ → Bool
  pub is : list ≡ filter keeps order
