-- Pixels that a box covers, the box of the shapes that were looked at, and the columns and rows of the display.
use Rattle.std.specs.Prelude.{ℕ, ℤ, ◌≡◌, ◌≤◌, pos, neg_ℤ, ◌+ℤ◌, ◌≤ℤ◌, List, Option, Some}
use Rattle.std.specs.Option.{ForSome}
use Rattle.icet_model.specs.declared.names.Rect.{Rect}
use Rattle.icet_scene_model.specs.Boxes.{HasPixel, box}
use Rattle.icet_scene_model.specs.Raster.{Drawing}

-- the box is there and has the pixel at x and y
pub record CoversPixel (bounds : Option Rect) (x y : ℕ) : Type 0 where
  pub rect : Rect
  pub box_is : bounds ≡ Some rect
  pub pixel : HasPixel rect (pos x) (pos y)

-- one or more columns on the display or to its left, by the first and their count; or rows on it or above
pub record IsSpan (first : ℤ) (count : ℕ) : Type 0 where
  pub least : neg_ℤ (pos 16384) ≤ℤ first
  pub some : 1 ≤ count
  pub within : (first +ℤ pos count) ≤ℤ pos 16384

-- a rectangle of such columns and rows
pub record IsNear (rect : Rect) : Type 0 where
  pub columns : IsSpan rect.x rect.w
  pub rows : IsSpan rect.y rect.h

-- the box of these shapes, with its columns and rows not far off the display
pub record IsBoxSoFar (least : Option Rect) (shapes : List Drawing) : Type 0 where
  pub value : least ≡ box shapes
  pub near : ForSome least IsNear
