-- Ready scenes: in place of a scene's shapes, what each rank draws, in rows of ready-drawn pixels.
use Rattle.std.specs.Prelude.{ℕ, ◌+◌, Bool, ◌&&◌, ◌==◌, max, nat_le, nat_lt, cond, List, [], ◌∷◌, map, Some, None}
use Rattle.std.specs.List.{flat_map, list_any, range_with_len}
use Rattle.icet_model.specs.declared.names.Mode.{Mode}
use Rattle.icet_model.specs.Pixel.{FragmentView, Pixel}
use Rattle.icet_model.specs.Tiles.{Area, TileView}
use Rattle.icet_scene_model.specs.Jobs.{shapes_of}
use Rattle.icet_scene_model.specs.Raster.{Drawing, Span, drawn}
use Rattle.icet_scene_model.specs.Scene.{SceneView, Placed}

-- the pixel at x and y lies in the area
abbrev pub holds_pixel : ℕ → ℕ → Area → Bool
holds_pixel x y area = (nat_le area.x x && nat_lt x (area.x + area.w)) && (nat_le area.y y && nat_lt y (area.y + area.h))

-- the column behind the last one that an area has, and the row below the last one
abbrev pub right_end : List Area → ℕ
right_end [] = 0
right_end (area ∷ areas) = max (area.x + area.w) (right_end areas)

abbrev pub bottom_end : List Area → ℕ
bottom_end [] = 0
bottom_end (area ∷ areas) = max (area.y + area.h) (bottom_end areas)

-- what the areas show at a pixel of what these shapes draw: nothing outside all of them
abbrev pub shown : Mode → List Area → List Drawing → ℕ → ℕ → Pixel
shown mode areas shapes y x = cond (list_any (holds_pixel x y) areas) (drawn mode shapes x y) None

-- a row of the display, as far as an area goes
abbrev pub shown_row : Mode → List Area → List Drawing → ℕ → List Pixel
shown_row mode areas shapes y = map (shown mode areas shapes y) (range_with_len 0 (right_end areas))

-- fragments in a row, from a column on
pub record Stretch : Type 0 where
  pub column : ℕ
  pub paints : List FragmentView

-- a fragment before some stretches: it lengthens one that begins in the next column, and else is a stretch of its own
abbrev pub put_before : ℕ → FragmentView → List Stretch → List Stretch
put_before column paint [] = record { column = column; paints = paint ∷ [] } ∷ []
put_before column paint (next ∷ rest) = cond (next.column == column + 1)
    (record { column = column; paints = paint ∷ next.paints } ∷ rest)
    (record { column = column; paints = paint ∷ [] } ∷ next ∷ rest)

-- the maximal runs of fragments among pixels, from left to right; the first pixel stands in that column
abbrev pub stretches : ℕ → List Pixel → List Stretch
stretches column [] = []
stretches column (None ∷ pixels) = stretches (column + 1) pixels
stretches column (Some paint ∷ pixels) = put_before column paint (stretches (column + 1) pixels)

abbrev pub stretch_span : ℕ → ℕ → Stretch → Placed
stretch_span rank y stretch = record { rank = rank; shape = Span stretch.column y stretch.paints }

-- a rank's spans in a row of the display
abbrev pub row_spans : Mode → List Area → List Drawing → ℕ → ℕ → List Placed
row_spans mode areas shapes rank y = map (stretch_span rank y) (stretches 0 (shown_row mode areas shapes y))

-- in all rows, from the top
abbrev pub rank_spans : Mode → List Area → List Drawing → ℕ → List Placed
rank_spans mode areas shapes rank = flat_map (row_spans mode areas shapes rank) (range_with_len 0 (bottom_end areas))

abbrev pub areas_of : SceneView → List Area
areas_of scene = map (λ tile. tile.area) scene.tiles

-- the spans of all ranks, ascending
unfoldable pub ready_shapes : SceneView → List Placed
ready_shapes scene = flat_map (λ rank. rank_spans scene.mode (areas_of scene) (shapes_of scene.shapes rank) rank) (range_with_len 0 scene.ranks)

-- the same ranks, tiles and colours, with the shapes ready drawn
abbrev pub ready_scene : SceneView → SceneView
ready_scene scene = record scene { shapes = ready_shapes scene }
