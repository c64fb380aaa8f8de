-- Small scenes for the examples of the definitions.
use Rattle.std.specs.Prelude.{ℕ, ℤ, pos, negsuc, List, [], ◌∷◌, ◌++◌, Option, Some, None, codes, false, true, take}
use Rattle.icet_model.specs.declared.names.Mode.TheVariants.{Depth, Blend, WideBlend}
use Rattle.icet_model.specs.declared.bracket.Bracket.{Bracket}
use Rattle.icet_model.specs.declared.bracket.Bracket.TheVariants.{Leaf, Pair}
use Rattle.icet_model.specs.Pixel.{FragmentView, Pixel}
use Rattle.icet_model.specs.Tiles.{Area, TileView}
use Rattle.icet_model.specs.declared.names.Rect.{Rect}
use Rattle.icet_model.specs.Examples.{grey, red}
use Rattle.icet_scene_model.specs.Raster.{Drawing, Point, Span, Tri}
use Rattle.icet_scene_model.specs.Triangles.{Corner, Triangle}
use Rattle.icet_scene_model.specs.Scene.{SceneView, Placed, clear}

abbrev pub grey_point : ℕ → ℕ → ℕ → ℕ → ℕ → Placed
grey_point rank x y level z = record { rank = rank; shape = Point x y (grey level z) }

abbrev pub tile : ℕ → ℕ → ℕ → ℕ → ℕ → TileView
tile x y w h display = record { area = record { x = x; y = y; w = w; h = h }; display = display }

-- one rank, and one point on a tile of one pixel
abbrev pub one_point_text : List ℕ
one_point_text = codes "icet-scene 1\nmode depth\nranks 1\ntile 0 0 1 1 0\npoint 0 0 0 7 10 20 30 255\nend\n"

abbrev pub one_point : SceneView
one_point = record {
  mode = Depth;
  wide = false;
  ranks = 1;
  background = clear;
  order = 0 ∷ [];
  tiles = tile 0 0 1 1 0 ∷ [];
  shapes = record { rank = 0; shape = Point 0 0 (record { r = 10; g = 20; b = 30; a = 255; z = 7 }) } ∷ [];
}

abbrev pub tie_text : List ℕ
tie_text = codes "icet-scene 1\nmode depth\nranks 2\ntile 0 0 1 1 0\npoint 1 0 0 7 2 2 2 255\npoint 0 0 0 7 1 1 1 255\nend\n"

-- two ranks draw at one pixel and at equal depth, and rank 1 stands first in the scene
abbrev pub tie : SceneView
tie = record {
  mode = Depth;
  wide = false;
  ranks = 2;
  background = clear;
  order = 0 ∷ 1 ∷ [];
  tiles = tile 0 0 1 1 0 ∷ [];
  shapes = grey_point 1 0 0 2 7 ∷ grey_point 0 0 0 1 7 ∷ [];
}

-- rank 0 joined in front of rank 1
abbrev pub tie_bracket : Bracket
tie_bracket = Pair (Leaf 0) (Leaf 1)

-- a text by depth, and one with a rank and a tile of one pixel, from what follows
abbrev pub depth_text : List ℕ → List ℕ
depth_text rest = codes "icet-scene 1\nmode depth\n" ++ rest

abbrev pub one_tile_text : List ℕ → List ℕ
one_tile_text rest = depth_text (codes "ranks 1\ntile 0 0 1 1 0\n" ++ rest)

-- the text of a scene of version 2, from what follows
abbrev pub second_text : List ℕ → List ℕ
second_text rest = codes "icet-scene 2\n" ++ rest

-- a point of one colour on a tile of one pixel, in a line of version 1
abbrev pub point_text : List ℕ → List ℕ
point_text numbers = one_tile_text (codes "point 0 0 0 " ++ (numbers ++ codes "\nend\n"))

-- three spans of two ranks, in lines of version 2
abbrev pub spans_text : List ℕ
spans_text = codes "mode depth\nranks 2\ntile 0 0 2 2 0\nspan 0 0 0 5 10 20 30 255\nspan 1 1 0 5 40 50 60 255\nspan 1 0 1 5 40 50 60 255 5 40 50 60 255\nend\n"

abbrev pub paint : ℕ → ℕ → ℕ → ℕ → FragmentView
paint r g b z = record { r = r; g = g; b = b; a = 255; z = z }

abbrev pub span : ℕ → ℕ → ℕ → List FragmentView → Placed
span rank x y paints = record { rank = rank; shape = Span x y paints }

abbrev pub spans : SceneView
spans = record {
  mode = Depth;
  wide = false;
  ranks = 2;
  background = clear;
  order = 0 ∷ 1 ∷ [];
  tiles = tile 0 0 2 2 0 ∷ [];
  shapes = span 0 0 0 (paint 10 20 30 5 ∷ []) ∷ span 1 1 0 (paint 40 50 60 5 ∷ []) ∷ span 1 0 1 (paint 40 50 60 5 ∷ paint 40 50 60 5 ∷ []) ∷ [];
}

-- two ranks that blend, with channels of 16 bits
abbrev pub wide_text : List ℕ
wide_text = codes "icet-scene 2\nmode blend\nranks 2\nmaxval 65535\norder 1 0\ntile 0 0 1 1 0\npoint 0 0 0 0 0 0 0 32768\npoint 1 0 0 0 100 0 0 65535\nend\n"

abbrev pub deep_red : ℕ → ℕ → FragmentView
deep_red level alpha = record { r = level; g = 0; b = 0; a = alpha; z = 0 }

abbrev pub wide_reds : SceneView
wide_reds = record {
  mode = WideBlend;
  wide = true;
  ranks = 2;
  background = clear;
  order = 1 ∷ 0 ∷ [];
  tiles = tile 0 0 1 1 0 ∷ [];
  shapes = record { rank = 0; shape = Point 0 0 (deep_red 0 32768) } ∷ record { rank = 1; shape = Point 0 0 (deep_red 100 65535) } ∷ [];
}

-- an opaque red of this level at this depth
abbrev pub opaque_red : ℕ → ℕ → FragmentView
opaque_red level z = record (red level 255) { z = z }

-- a corner of that paint, at a spot in sixteenths of a pixel
abbrev pub corner : ℕ → ℕ → ℕ → ℕ → Corner
corner x y level z = record { spot = record { x = pos x; y = pos y }; paint = opaque_red level z }

-- a triangle behind a background, a comment and an empty line
abbrev pub tri_text : List ℕ
tri_text = codes "# one triangle\nicet-scene 1\nmode depth\n\nranks 1\nbackground 1 2 3 4\ntile 0 0 2 2 0\ntri 0 0 0 5 1 0 0 255 32 0 5 1 0 0 255 -1 32 5 1 0 0 255\nend"

abbrev pub one_triangle : SceneView
one_triangle = record {
  mode = Depth;
  wide = false;
  ranks = 1;
  background = record { r = 1; g = 2; b = 3; a = 4; z = 0 };
  order = 0 ∷ [];
  tiles = tile 0 0 2 2 0 ∷ [];
  shapes = record { rank = 0; shape = Tri (record { a = corner 0 0 1 5; b = corner 32 0 1 5; c = record { spot = record { x = negsuc 0; y = pos 32 }; paint = opaque_red 1 5 } }) } ∷ [];
}

-- the first bytes of the text of one point
abbrev pub cut_text : ℕ → List ℕ
cut_text count = take count one_point_text

abbrev pub header_text : List ℕ
header_text = codes "P7\nWIDTH 1920\nHEIGHT 1080\nDEPTH 4\nMAXVAL 255\nTUPLTYPE RGB_ALPHA\nENDHDR\n"

-- a background, and the samples of it and of an opaque grey behind it
abbrev pub pale : FragmentView
pale = record { r = 1; g = 2; b = 3; a = 4; z = 0 }

abbrev pub pale_and_grey : List ℕ
pale_and_grey = 1 ∷ 2 ∷ 3 ∷ 4 ∷ 9 ∷ 9 ∷ 9 ∷ 255 ∷ []

abbrev pub area : ℕ → ℕ → ℕ → ℕ → Area
area x y w h = record { x = x; y = y; w = w; h = h }

-- two points on a diagonal of a square of four pixels
abbrev pub diagonal : List Drawing
diagonal = Point 5 2 (grey 1 7) ∷ Point 4 3 (grey 2 7) ∷ []

-- rectangles, and one whose corner is on the diagonal
abbrev pub beside : ℤ → ℤ → ℕ → ℕ → Rect
beside x y w h = record { x = x; y = y; w = w; h = h }

abbrev pub rect : ℤ → ℕ → ℕ → Rect
rect corner w h = beside corner corner w h

-- three ranks with a box, and one that draws nothing
abbrev pub four_boxes : List (Option Rect)
four_boxes = Some (beside (pos 3) (pos 0) 1 1) ∷ None ∷ Some (beside (pos 0) (pos 0) 4 1) ∷ Some (beside (pos 4) (pos 0) 1 1) ∷ []

abbrev pub diagonal_pixels : List Pixel
diagonal_pixels = None ∷ Some (grey 1 7) ∷ Some (grey 2 7) ∷ None ∷ []

-- three half transparent or opaque fragments of three ranks at one pixel, and a rank that draws nothing
abbrev pub reds : SceneView
reds = record {
  mode = Blend;
  wide = false;
  ranks = 4;
  background = clear;
  order = 0 ∷ 1 ∷ 2 ∷ 3 ∷ [];
  tiles = tile 0 0 1 1 0 ∷ [];
  shapes = record { rank = 1; shape = Point 0 0 (red 0 128) } ∷ record { rank = 2; shape = Point 0 0 (red 1 128) } ∷ record { rank = 3; shape = Point 0 0 (red 100 255) } ∷ [];
}

-- two by two pixels
abbrev pub square : Area
square = record { x = 0; y = 0; w = 2; h = 2 }

-- the upper left and the lower right half of a square of two by two pixels, whose common edge goes
-- through the centres of two of them
abbrev pub upper_half : Triangle
upper_half = record { a = corner 0 0 1 5; b = corner 32 0 1 5; c = corner 0 32 1 5 }

abbrev pub lower_half : Triangle
lower_half = record { a = corner 32 0 2 5; b = corner 32 32 2 5; c = corner 0 32 2 5 }

-- a triangle of three paints, and the same with its last two corners exchanged
abbrev pub shaded_half : Triangle
shaded_half = record { a = corner 0 0 100 0; b = corner 32 0 200 8; c = corner 0 32 4 16 }

abbrev pub turned_half : Triangle
turned_half = record { a = corner 0 0 100 0; b = corner 0 32 4 16; c = corner 32 0 200 8 }

-- a triangle that begins one sixteenth of a pixel left of the display and seventeen above it
abbrev pub over_the_edge : Triangle
over_the_edge = record { a = record { spot = record { x = negsuc 0; y = negsuc 16 }; paint = opaque_red 1 5 }; b = corner 32 0 1 5; c = corner 0 31 1 5 }

abbrev pub upper_pixels : List Pixel
upper_pixels = Some (opaque_red 1 5) ∷ None ∷ None ∷ None ∷ []

abbrev pub lower_pixels : List Pixel
lower_pixels = None ∷ Some (opaque_red 2 5) ∷ Some (opaque_red 2 5) ∷ Some (opaque_red 2 5) ∷ []

-- a triangle without area
abbrev pub flat_triangle : Triangle
flat_triangle = record { a = corner 0 0 1 5; b = corner 16 16 1 5; c = corner 32 32 1 5 }

abbrev pub two_greys : List FragmentView
two_greys = grey 1 7 ∷ grey 2 7 ∷ []

-- a corner of a paint, at a spot in sixteenths of a pixel
abbrev pub painted : ℕ → ℕ → FragmentView → Corner
painted x y paint = record { spot = record { x = pos x; y = pos y }; paint = paint }

-- the halves of a square of four pixels, each in one paint and of one rank: what the three spans are of
abbrev pub halves : SceneView
halves = record spans {
  shapes = record { rank = 0; shape = Tri (record { a = painted 0 0 (paint 10 20 30 5); b = painted 32 0 (paint 10 20 30 5); c = painted 0 32 (paint 10 20 30 5) }) }
      ∷ record { rank = 1; shape = Tri (record { a = painted 32 0 (paint 40 50 60 5); b = painted 32 32 (paint 40 50 60 5); c = painted 0 32 (paint 40 50 60 5) }) } ∷ [];
}

-- two tiles side by side, a third over both of them, and points on either side of the seam and outside of all
abbrev pub seam : SceneView
seam = record spans {
  tiles = tile 2 0 1 1 1 ∷ tile 1 0 1 1 0 ∷ tile 1 0 2 1 2 ∷ [];
  ranks = 3;
  order = 0 ∷ 1 ∷ 2 ∷ [];
  shapes = grey_point 1 2 0 8 7 ∷ grey_point 1 3 0 9 7 ∷ grey_point 1 1 0 7 7 ∷ [];
}
