-- The definitions' shapes for those of the code, and images with shapes drawn.
use Rattle.std.specs.Prelude.{ℕ, ◌+◌, ◌*◌, ◌/◌, ◌%◌, List, ◌<◌, ◌≤◌, ◌≡◌, unsigned_abs, ℤ, pos, neg_ℤ, ◌≤ℤ◌, All, length, slice_index_or}
use Rattle.icet_model.specs.declared.names.Mode.{Mode}
use Rattle.icet_model.specs.Pixel.{DenseView}
use Rattle.icet_scene_model.specs.Raster.{Drawing, Point as PointDrawing, Tri as TriDrawing, Span as SpanDrawing, full_image}
use Rattle.icet_model.specs.Tiles.{Area, IsPlace}
use Rattle.icet_raster.specs.declared.shape.Shape.{Shape}
use Rattle.icet_raster.specs.declared.shape.Shape.TheVariants.{Point, Tri, Span}
use Rattle.icet_raster.specs.declared.shape.Vertex.{Vertex}
use Rattle.icet_scene_model.specs.declared.spot.Spot.{Spot}
use Rattle.icet_scene_model.specs.Triangles.{Corner, Triangle}

abbrev pub corner_of : Vertex → Corner
corner_of v = record { spot = record { x = v.x; y = v.y }; paint = v.paint }

-- what stands for a corner that a list doesn't have; three corners are always there
abbrev pub nowhere : Vertex
nowhere = record { x = pos 0; y = pos 0; paint = record { r = 0; g = 0; b = 0; a = 0; z = 0 } }

-- the first three corners
abbrev pub triangle_of : List Vertex → Triangle
triangle_of corners = record { a = corner_of (slice_index_or corners 0 nowhere); b = corner_of (slice_index_or corners 1 nowhere); c = corner_of (slice_index_or corners 2 nowhere) }

-- a coordinate of the plane in sixteenths of a pixel, on the display or around it
pub record IsCoordinate (v : ℤ) : Type 0 where
  pub least : neg_ℤ (pos 262143) ≤ℤ v
  pub greatest : v ≤ℤ pos 262143

pub record IsOnPlane (at : Spot) : Type 0 where
  pub x : IsCoordinate at.x
  pub y : IsCoordinate at.y

abbrev pub IsCorner : Vertex → Type 0
IsCorner v = IsOnPlane (corner_of v).spot

-- coordinates inside their ranges aren't negative, so that their magnitude is the number
abbrev pub drawing_of : Shape → Drawing
drawing_of (Point x y paint) = PointDrawing (unsigned_abs x) (unsigned_abs y) paint
drawing_of (Tri corners) = TriDrawing (triangle_of corners)
drawing_of (Span x y paints) = SpanDrawing (unsigned_abs x) (unsigned_abs y) paints

-- a point and a span stand on the display, a triangle's corners on the plane
abbrev pub IsInRange : Shape → Type 0
IsInRange (Point x y paint) = IsPlace x × IsPlace y
IsInRange (Tri corners) = All IsCorner corners
IsInRange (Span x y paints) = IsPlace x × IsPlace y × (unsigned_abs x + length paints ≤ 16384)

-- pixel i of the area is the display's pixel at x and y
pub record IsPixelAt (area : Area) (i x y : ℕ) : Type 0 where
  pub within : i < area.w * area.h
  pub column : area.x + i % area.w ≡ x
  pub row : area.y + i / area.w ≡ y

-- an image of the area with these shapes drawn
pub record IsDrawn (image : DenseView) (mode : Mode) (shapes : List Drawing) (area : Area) : Type 0 where
  pub width : image.w ≡ area.w
  pub height : image.h ≡ area.h
  pub pixels : image.pixels ≡ full_image mode shapes area
