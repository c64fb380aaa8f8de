-- Drawing: what a shape gives at a pixel, and the full image of a rank.
use Rattle.std.specs.Prelude.{ℕ, ◌+◌, ◌-◌, ◌*◌, ◌/◌, ◌%◌, ◌&&◌, ◌==◌, nat_le, cond, List, map, fold, slice_get, Some, None}
use Rattle.std.specs.List.{range_with_len}
use Rattle.icet_model.specs.declared.names.Mode.{Mode}
use Rattle.icet_model.specs.declared.names.Mode.TheVariants.{Depth, Blend, WideBlend}
use Rattle.icet_model.specs.Tiles.{Area}
use Rattle.icet_scene_model.specs.Triangles.{Triangle, centre, covers, shaded}
use Rattle.icet_model.specs.Pixel.{FragmentView, Pixel, joined}

-- what can be drawn, in display space; x grows to the right and y downwards, in pixels
pub data Drawing : Type 0 where
  Point : (x y : ℕ) (paint : FragmentView) → Drawing
  Tri : (triangle : Triangle) → Drawing
  Span : (x y : ℕ) (paints : List FragmentView) → Drawing

-- what a shape gives at a pixel: a point its paint at its own pixel, a triangle its shade where it covers
-- the pixel's centre, a span its paints one after another in its row; and nothing elsewhere
abbrev pub gives : Drawing → ℕ → ℕ → Pixel
gives (Point px py paint) x y = cond ((px == x) && (py == y)) (Some paint) None
gives (Tri triangle) x y = cond (covers triangle (centre x y)) (Some (shaded triangle (centre x y))) None
gives (Span px py paints) x y = cond ((py == y) && nat_le px x) (slice_get paints (x - px)) None

-- a fragment that can be seen when it is blended: one of alpha 0 is left out
abbrev pub visible : Pixel → Pixel
visible None = None
visible (Some fragment) = cond (fragment.a == 0) None (Some fragment)

-- a further shape over what was drawn: by depth the earlier one is the front, so it wins at equal depth;
-- by blending the new one is the front
abbrev pub drawn_over : Mode → Pixel → Pixel → Pixel
drawn_over Depth before new = joined Depth before new
drawn_over Blend before new = joined Blend (visible new) before
drawn_over WideBlend before new = joined WideBlend (visible new) before

-- what a rank's shapes make of a pixel, from the first to the last
abbrev pub drawn : Mode → List Drawing → ℕ → ℕ → Pixel
drawn mode shapes x y = fold (λ before shape. drawn_over mode before (gives shape x y)) None shapes

-- the full image: a rank's shapes at each pixel of the area, row by row from the top
abbrev pub full_image : Mode → List Drawing → Area → List Pixel
full_image mode shapes area = map (λ i. drawn mode shapes (area.x + i % area.w) (area.y + i / area.w)) (range_with_len 0 (area.w * area.h))
