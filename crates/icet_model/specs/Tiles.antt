-- Tiles: rectangles of the display, and which ranks draw into them.
use Rattle.std.specs.Prelude.{ℕ, ℤ, pos, unsigned_abs, ◌+◌, ◌≤◌, ◌≤ℤ◌, ◌≢◌, All, AllPairs, List, length}
use Rattle.icet_model.specs.declared.limits.TheConstants.{MAX_PLACE, MAX_SIDE, MAX_TILES}
use Rattle.icet_model.specs.declared.names.Rect.{Rect}

-- a rectangle of pixels
pub record Area : Type 0 where
  pub x : ℕ
  pub y : ℕ
  pub w : ℕ
  pub h : ℕ

-- a tile of the display, and the rank that displays it
pub record TileView : Type 0 where
  pub area : Area
  pub display : ℕ

-- the area lies on the greatest display and isn't empty
pub record IsOnDisplay (area : Area) : Type 0 where
  pub x : area.x ≤ MAX_PLACE
  pub y : area.y ≤ MAX_PLACE
  pub w : 1 ≤ area.w
  pub h : 1 ≤ area.h
  pub right : area.x + area.w ≤ MAX_SIDE
  pub bottom : area.y + area.h ≤ MAX_SIDE

-- a rectangle's place by magnitudes, which are the coordinates where these aren't negative
abbrev pub area_of : Rect → Area
area_of rect = record { x = unsigned_abs rect.x; y = unsigned_abs rect.y; w = rect.w; h = rect.h }

-- a pixel coordinate isn't negative, and within the greatest
pub record IsPlace (z : ℤ) : Type 0 where
  pub least : pos 0 ≤ℤ z
  pub greatest : z ≤ℤ pos MAX_PLACE

-- the rectangle is one that a tile may have
pub record IsTileArea (rect : Rect) : Type 0 where
  pub x : IsPlace rect.x
  pub y : IsPlace rect.y
  pub display : IsOnDisplay (area_of rect)

-- at least one tile and at most so many, each where a tile may lie, with display ranks that differ
pub record IsLayoutOf {T : Type 0} (IsInside : T → Type 0) (display_of : T → ℕ) (tiles : List T) : Type 0 where
  pub some : 1 ≤ length tiles
  pub few : length tiles ≤ MAX_TILES
  pub inside : All IsInside tiles
  pub distinct : AllPairs (λ one other. display_of one ≢ display_of other) tiles

abbrev pub IsLayout : List TileView → Type 0
IsLayout tiles = IsLayoutOf (λ tile. IsOnDisplay tile.area) (λ tile. tile.display) tiles
