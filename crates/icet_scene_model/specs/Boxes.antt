-- Boxes: the least rectangle that holds what a rank draws, and which ranks contribute to a tile.
use Rattle.std.specs.Prelude.{ℕ, ℤ, pos, ◌+ℤ◌, ◌≤ℤ◌, ◌<ℤ◌, Bool, false, ◌&&◌, List, fold, filter, get_or, length, Option, Some, None}
use Rattle.std.specs.Int.{int_div_euclid, int_gap, int_max, int_min}
use Rattle.std.specs.Int.Signed.{lt_z}
use Rattle.icet_model.specs.declared.names.Rect.{Rect}
use Rattle.icet_scene_model.specs.Raster.{Drawing, Point, Tri, Span}
use Rattle.icet_scene_model.specs.Triangles.{Triangle, by_sign, doubled_area}
use Rattle.icet_model.specs.Tiles.{Area}

-- where a rectangle ends, not included
abbrev pub right_of : Rect → ℤ
right_of rect = rect.x +ℤ pos rect.w

abbrev pub bottom_of : Rect → ℤ
bottom_of rect = rect.y +ℤ pos rect.h

-- the pixel at x and y lies in the rectangle
pub record HasPixel (rect : Rect) (x y : ℤ) : Type 0 where
  pub left : rect.x ≤ℤ x
  pub right : x <ℤ right_of rect
  pub top : rect.y ≤ℤ y
  pub bottom : y <ℤ bottom_of rect

-- some pixel lies in both rectangles
pub record Meet (one other : Rect) : Type 0 where
  pub x : ℤ
  pub y : ℤ
  pub in_one : HasPixel one x y
  pub in_other : HasPixel other x y

-- the same by the edges: the later left edge lies before the earlier right edge, and so from top to bottom
abbrev pub meets : Rect → Rect → Bool
meets one other = lt_z (int_max one.x other.x) (int_min (right_of one) (right_of other)) && lt_z (int_max one.y other.y) (int_min (bottom_of one) (bottom_of other))

-- the rectangle with these edges
abbrev pub between : ℤ → ℤ → ℤ → ℤ → Rect
between left top right bottom = record { x = left; y = top; w = int_gap left right; h = int_gap top bottom }

-- the least rectangle that holds both
abbrev pub hull : Rect → Rect → Rect
hull one other = between (int_min one.x other.x) (int_min one.y other.y) (int_max (right_of one) (right_of other)) (int_max (bottom_of one) (bottom_of other))

abbrev pub hull_of : Option Rect → Option Rect → Option Rect
hull_of None other = other
hull_of (Some one) None = Some one
hull_of (Some one) (Some other) = Some (hull one other)

-- the least and the greatest of three numbers
abbrev pub least : ℤ → ℤ → ℤ → ℤ
least a b c = int_min (int_min a b) c

abbrev pub greatest : ℤ → ℤ → ℤ → ℤ
greatest a b c = int_max (int_max a b) c

-- the column or the row of pixels that a coordinate in sixteenths falls into: a sixteenth of it, rounded down
unfoldable pub pixel_of : ℤ → ℤ
pixel_of v = int_div_euclid v (pos 16)

-- from the pixel of the least corner to that of the greatest, both included, in each direction
abbrev pub frame : Triangle → Rect
frame t = between
    (pixel_of (least t.a.spot.x t.b.spot.x t.c.spot.x))
    (pixel_of (least t.a.spot.y t.b.spot.y t.c.spot.y))
    (pixel_of (greatest t.a.spot.x t.b.spot.x t.c.spot.x) +ℤ pos 1)
    (pixel_of (greatest t.a.spot.y t.b.spot.y t.c.spot.y) +ℤ pos 1)

-- a shape's box: a point's is its pixel; a triangle's its frame, but where its area is 0 it has none; a
-- span's is its part of the row
abbrev pub bounds : Drawing → Option Rect
bounds (Point x y paint) = Some (record { x = pos x; y = pos y; w = 1; h = 1 })
bounds (Tri triangle) = by_sign (doubled_area triangle) (Some (frame triangle)) None (Some (frame triangle))
bounds (Span x y paints) = Some (record { x = pos x; y = pos y; w = length paints; h = 1 })

-- the least rectangle that holds the boxes of the shapes, where there is one
abbrev pub box : List Drawing → Option Rect
box shapes = fold (λ before shape. hull_of before (bounds shape)) None shapes

-- the rectangle holds the shape's box
abbrev pub HoldsBox : Rect → Option Rect → Type 0
HoldsBox rect None = Unit {0}
HoldsBox rect (Some inner) = (rect.x ≤ℤ inner.x) × (right_of inner ≤ℤ right_of rect) × (rect.y ≤ℤ inner.y) × (bottom_of inner ≤ℤ bottom_of rect)

-- the area of a tile as a rectangle
abbrev pub rect_of : Area → Rect
rect_of area = record { x = pos area.x; y = pos area.y; w = area.w; h = area.h }

-- the box is there and meets the area
abbrev pub reaches_into : Option Rect → Area → Bool
reaches_into None area = false
reaches_into (Some rect) area = meets rect (rect_of area)

-- the contributors to a tile: the ranks whose box meets its area, in the order; `boxes` has the ranks' boxes
abbrev pub contributors : List (Option Rect) → List ℕ → Area → List ℕ
contributors boxes order area = filter (λ rank. reaches_into (get_or boxes rank None) area) order
