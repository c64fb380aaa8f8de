-- The definitions' tiles for those of the code, and which tiles make a layout.
use Rattle.std.specs.Prelude.{ℕ, ℤ, pos, ◌+◌, ◌≤◌, ◌≤ℤ◌, unsigned_abs, List}
use Rattle.icet_model.specs.declared.limits.TheConstants.{MAX_PLACE, MAX_SIDE}
use Rattle.icet_model.specs.Tiles.{TileView, area_of, IsTileArea, IsLayoutOf}
use Rattle.icet_tiles.specs.declared.layout.Tile.{Tile}

abbrev pub tile_view : Tile → TileView
tile_view tile = record { area = area_of tile.area; display = tile.display }

-- the tiles make a layout, and no coordinate of theirs is negative
abbrev pub IsLayout : List Tile → Type 0
IsLayout tiles = IsLayoutOf (λ tile. IsTileArea tile.area) (λ tile. tile.display) tiles

-- so many pixels from the first on are some, and lie in a row or a column of the greatest display
pub record IsSide (first : ℤ) (count : ℕ) : Type 0 where
  pub least : pos 0 ≤ℤ first
  pub greatest : first ≤ℤ pos MAX_PLACE
  pub some : 1 ≤ count
  pub within : unsigned_abs first + count ≤ MAX_SIDE
