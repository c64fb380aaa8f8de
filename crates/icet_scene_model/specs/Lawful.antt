-- Which paints and shapes a scene may have, by the greatest value of its colour channels.
use Rattle.std.specs.Prelude.{ℕ, ◌+◌, ◌≤◌, unsigned_abs, Bool, true, false, if◌then◌else◌, All, List, length}
use Rattle.icet_model.specs.declared.limits.TheConstants.{MAX_PLACE, MAX_SIDE}
use Rattle.icet_model.specs.declared.names.Mode.{Mode}
use Rattle.icet_model.specs.declared.names.Mode.TheVariants.{Depth, Blend, WideBlend}
use Rattle.icet_model.specs.Pixel.{FragmentView, IsFragment}
use Rattle.icet_scene_model.specs.Fields.{coordinate_field}
use Rattle.icet_scene_model.specs.Raster.{Drawing, Point, Tri, Span}
use Rattle.icet_scene_model.specs.Triangles.{Corner, Triangle}
use Rattle.icet_scene_model.specs.declared.limits.TheConstants.{NARROW_CHANNEL, WIDE_CHANNEL}

-- the greatest value of a colour channel, by whether the scene is wide
abbrev pub greatest_channel : Bool → ℕ
greatest_channel wide = if wide then WIDE_CHANNEL else NARROW_CHANNEL

-- the mode blends
abbrev pub is_blending : Mode → Bool
is_blending Depth = false
is_blending Blend = true
is_blending WideBlend = true

-- a premultiplied colour with channels up to the greatest, at a depth
pub record IsPaint (most : ℕ) (paint : FragmentView) : Type 0 where
  pub fragment : IsFragment paint
  pub within : paint.a ≤ most

-- a corner on the plane
pub record IsPaintedCorner (most : ℕ) (corner : Corner) : Type 0 where
  pub x : unsigned_abs corner.spot.x ≤ coordinate_field.greatest
  pub y : unsigned_abs corner.spot.y ≤ coordinate_field.greatest
  pub paint : IsPaint most corner.paint

pub record IsPaintedPoint (most x y : ℕ) (paint : FragmentView) : Type 0 where
  pub column : x ≤ MAX_PLACE
  pub row : y ≤ MAX_PLACE
  pub painted : IsPaint most paint

pub record IsPaintedTriangle (most : ℕ) (triangle : Triangle) : Type 0 where
  pub a : IsPaintedCorner most triangle.a
  pub b : IsPaintedCorner most triangle.b
  pub c : IsPaintedCorner most triangle.c

-- at least one paint, all of them in one row of the greatest display
pub record IsPaintedRow (most x y : ℕ) (paints : List FragmentView) : Type 0 where
  pub row : y ≤ MAX_PLACE
  pub some : 1 ≤ length paints
  pub within : x + length paints ≤ MAX_SIDE
  pub painted : All (IsPaint most) paints

-- a shape that a line can say
abbrev pub IsPainted : ℕ → Drawing → Type 0
IsPainted most (Point x y paint) = IsPaintedPoint most x y paint
IsPainted most (Tri triangle) = IsPaintedTriangle most triangle
IsPainted most (Span x y paints) = IsPaintedRow most x y paints
