-- What a rank draws into the tiles, and the pixels of a row that a tile shows.
use Rattle.std.specs.Prelude.{◌≡◌, ℕ, ◌+◌, ◌-◌, ◌*◌, ◌≤◌, ◌<◌, Bool, ◌&&◌, nat_le, nat_lt, cond, List, [], ◌++◌, All, length, take, drop, map, replicate, None, unsigned_abs}
use Rattle.std.specs.List.Sorted.{IsNonDecreasingBy}
use Rattle.icet_model.specs.declared.names.Mode.{Mode}
use Rattle.icet_model.specs.Pixel.{Pixel}
use Rattle.icet_model.specs.Tiles.{Area, IsTileArea, area_of}
use Rattle.icet_scene_model.specs.Raster.{Drawing, full_image}
use Rattle.icet_upgrade.specs.declared.tile_image.TileImage.{TileImage}

-- the area is one of a tile, and the image has its size
pub record IsTileImage (tile : TileImage) : Type 0 where
  pub area : IsTileArea tile.area
  pub width : tile.image.w ≡ tile.area.w
  pub height : tile.image.h ≡ tile.area.h
  pub size : length tile.image.pixels ≡ tile.area.w * tile.area.h

-- the image is what these shapes draw there
pub record Shows (mode : Mode) (shapes : List Drawing) (tile : TileImage) : Type 0 where
  pub pixels : tile.image.pixels ≡ full_image mode shapes (area_of tile.area)

-- images of tiles, in the order of their left edges
pub record AreInOrder (tiles : List TileImage) : Type 0 where
  pub each : All IsTileImage tiles
  pub order : IsNonDecreasingBy (λ tile. unsigned_abs tile.area.x) tiles

abbrev pub left_of : TileImage → ℕ
left_of tile = unsigned_abs tile.area.x

-- the row is one of the tile
pub record HasRow (tile : TileImage) (y : ℕ) : Type 0 where
  pub top : unsigned_abs tile.area.y ≤ y
  pub bottom : y < unsigned_abs tile.area.y + tile.area.h

abbrev pub has_row : TileImage → ℕ → Bool
has_row tile y = nat_le (unsigned_abs tile.area.y) y && nat_lt y (unsigned_abs tile.area.y + tile.area.h)

-- the tile's pixels in a row of the display
abbrev pub row_of : TileImage → ℕ → List Pixel
row_of tile y = take tile.area.w (drop ((y - unsigned_abs tile.area.y) * tile.area.w) tile.image.pixels)

-- the pixels from a column on to the tile's right end: blank ones up to the tile, and then the tile's own
abbrev pub pixels_from : ℕ → ℕ → TileImage → List Pixel
pixels_from next y tile = replicate (left_of tile - next) None ++ drop (next - left_of tile) (row_of tile y)

-- nothing where the row isn't one of the tile
abbrev pub tile_pixels : ℕ → ℕ → TileImage → List Pixel
tile_pixels next y tile = cond (has_row tile y) (pixels_from next y tile) []

abbrev pub tile_areas : List TileImage → List Area
tile_areas tiles = map (λ tile. area_of tile.area) tiles
