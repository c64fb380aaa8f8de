-- A shape drawn over some pixels of an image, in reading order, and the part of an area where it may be seen.
use Rattle.std.specs.Prelude.{◌≡◌, ◌≢◌, ℕ, ◌+◌, ◌/◌, ◌%◌, ◌<◌, ◌≤◌, pos, ◌+ℤ◌, ◌≤ℤ◌, ◌<ℤ◌, List, length, slice_index_or, None, true}
use Rattle.icet_model.specs.declared.names.Mode.{Mode}
use Rattle.icet_model.specs.declared.names.Rect.{Rect}
use Rattle.icet_model.specs.Pixel.{Pixel}
use Rattle.icet_model.specs.Tiles.{Area}
use Rattle.icet_scene_model.specs.Raster.{Drawing, drawn, drawn_over, gives}
use Rattle.icet_scene_model.specs.Triangles.{Triangle, centre, covers}
use Rattle.icet_raster.specs.declared.cut.Part.{Part}

-- what a shape gives at pixel k of an area
abbrev pub given : Drawing → Area → ℕ → Pixel
given shape area k = gives shape (area.x + k % area.w) (area.y + k / area.w)

-- pixels from lo to hi, the last not included, have the shape drawn over what was there, and the others
-- are as before
pub record Draws (mode : Mode) (shape : Drawing) (area : Area) (lo hi : ℕ) (old new : List Pixel) : Type 0 where
  pub count : length new ≡ length old
  pub below : (k : ℕ) → k < lo → slice_index_or new k None ≡ slice_index_or old k None
  pub drawn : (k : ℕ) → lo ≤ k → k < hi → slice_index_or new k None ≡ drawn_over mode (slice_index_or old k None) (given shape area k)
  pub above : (k : ℕ) → hi ≤ k → slice_index_or new k None ≡ slice_index_or old k None

-- columns of a row of the area whose pixels the triangle covers, the last not included
pub record IsCovered (t : Triangle) (area : Area) (row from to : ℕ) : Type 0 where
  pub order : from ≤ to
  pub within : to ≤ area.w
  pub all : (k : ℕ) → from ≤ k → k < to → covers t (centre (area.x + k) (area.y + row)) ≡ true

-- columns and rows of the area
pub record IsPartOf (area : Area) (part : Part) : Type 0 where
  pub columns : part.from ≤ part.to
  pub width : part.to ≤ area.w
  pub rows : part.top ≤ part.bottom
  pub height : part.bottom ≤ area.h

-- the shape gives nothing elsewhere in the area
pub record IsSeenWithin (shape : Drawing) (area : Area) (part : Part) : Type 0 where
  pub columns : (x y : ℕ) → x < area.w → gives shape (area.x + x) (area.y + y) ≢ None → (part.from ≤ x) × (x < part.to)
  pub rows : (x y : ℕ) → y < area.h → gives shape (area.x + x) (area.y + y) ≢ None → (part.top ≤ y) × (y < part.bottom)

-- the shapes draw nothing elsewhere in the area
pub record AreSeenWithin (shapes : List Drawing) (area : Area) (part : Part) : Type 0 where
  pub columns : (mode : Mode) (x y : ℕ) → x < area.w → drawn mode shapes (area.x + x) (area.y + y) ≢ None → (part.from ≤ x) × (x < part.to)
  pub rows : (mode : Mode) (x y : ℕ) → y < area.h → drawn mode shapes (area.x + x) (area.y + y) ≢ None → (part.top ≤ y) × (y < part.bottom)

-- the part has the columns and the rows of the area that a rectangle has
pub record IsCutBy (rect : Rect) (area : Area) (part : Part) : Type 0 where
  pub columns : (x : ℕ) → x < area.w → rect.x ≤ℤ pos (area.x + x) → pos (area.x + x) <ℤ (rect.x +ℤ pos rect.w) → (part.from ≤ x) × (x < part.to)
  pub rows : (y : ℕ) → y < area.h → rect.y ≤ℤ pos (area.y + y) → pos (area.y + y) <ℤ (rect.y +ℤ pos rect.h) → (part.top ≤ y) × (y < part.bottom)
