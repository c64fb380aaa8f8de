-- Where a fragment is drawn the box has the pixel, so nothing is drawn outside the box.
use Rattle.std.proofs.Common.{◌≡◌, ℕ, ◌+◌, ◌-◌, ◌*◌, ◌/◌, ◌%◌, ◌<◌, ◌≤◌, ◌&&◌, length, ℤ, pos, Bool, cond, true, false, List, [], ◌∷◌, replicate, refl, sym, ap, ◌∙◌, subst, arith, Option, Some, None}
use Rattle.std.specs.Prelude.{fold, slice_get, ◌==◌, nat_le}
use Rattle.std.proofs.Math.Nat.{mul-le-mul_left}
use Rattle.std.proofs.lemmas.Int.{ints, clamps}
use Rattle.std.proofs.lemmas.Bool.Decides.{nat_tests}
use Rattle.std.proofs.lemmas.Option.{slice_get_within}
use Rattle.icet_model.specs.declared.names.Mode.{Mode}
use Rattle.icet_model.specs.declared.names.Mode.TheVariants.{Depth, Blend, WideBlend}
use Rattle.icet_model.specs.declared.names.Rect.{Rect}
use Rattle.icet_model.specs.Pixel.{FragmentView, Pixel, joined}
use Rattle.icet_scene_model.specs.Triangles.{centre, covers, shaded}
use Rattle.icet_raster.proofs.CoveredInFrame.{covered_in_box}
use Rattle.icet_scene_model.specs.Raster.{Drawing, Point, Tri, Span, visible, gives, drawn_over, drawn, full_image}
use Rattle.icet_model.specs.Tiles.{Area}
use Rattle.icet_scene_model.specs.Boxes.{HasPixel, hull, hull_of, bounds, box, rect_of, reaches_into}
use Rattle.icet_raster.specs.Boxes.{CoversPixel}
use Rattle.icet_raster.proofs.Hulls.{box_from, right-hull, bottom-hull}
use Rattle.icet_raster.proofs.FullImages.{map_same, blanks, wide}
use Rattle.icet_scene_model.proofs.Overlaps.{pixel_meets}

-- the hull has the pixels of both
hull_left : (one other : Rect) (x y : ℤ) → HasPixel one x y → HasPixel (hull one other) x y
hull_left one other x y h =
    let right = right-hull one other in
    let bottom = bottom-hull one other in
    record { left = omega (arith, ints, clamps); right = omega (arith, ints, clamps); top = omega (arith, ints, clamps); bottom = omega (arith, ints, clamps) }

hull_right : (one other : Rect) (x y : ℤ) → HasPixel other x y → HasPixel (hull one other) x y
hull_right one other x y h =
    let right = right-hull one other in
    let bottom = bottom-hull one other in
    record { left = omega (arith, ints, clamps); right = omega (arith, ints, clamps); top = omega (arith, ints, clamps); bottom = omega (arith, ints, clamps) }

covers_left : (one other : Option Rect) (x y : ℕ) → CoversPixel one x y → CoversPixel (hull_of one other) x y
covers_left None other x y c = absurd (let e = c.box_is in cc)
covers_left (Some one) None x y c = c
covers_left (Some one) (Some other) x y c = record { rect = hull one other; box_is = refl; pixel = hull_left one other (pos x) (pos y) (let e : c.rect ≡ one = (let f = c.box_is in cc) in subst (λ rect. HasPixel rect (pos x) (pos y)) e c.pixel) }

covers_right : (one other : Option Rect) (x y : ℕ) → CoversPixel other x y → CoversPixel (hull_of one other) x y
covers_right None other x y c = c
covers_right (Some one) None x y c = absurd (let e = c.box_is in cc)
covers_right (Some one) (Some other) x y c = record { rect = hull one other; box_is = refl; pixel = hull_right one other (pos x) (pos y) (let e : c.rect ≡ other = (let f = c.box_is in cc) in subst (λ rect. HasPixel rect (pos x) (pos y)) e c.pixel) }

-- a point gives its paint at its own pixel alone
point_gives : (px py x y : ℕ) (paint fragment : FragmentView) → gives (Point px py paint) x y ≡ Some fragment → (px ≡ x) × (py ≡ y)
point_gives px py x y paint fragment e = (grind (arith, nat_tests), grind (arith, nat_tests))

-- a span gives something in its row alone, from its first column up to its last
pub span_gives : (px py x y : ℕ) (paints : List FragmentView) (fragment : FragmentView) → gives (Span px py paints) x y ≡ Some fragment → (py ≡ y) × (px ≤ x) × (x < px + length paints)
span_gives px py x y paints fragment e = go (py == y) (nat_le px x) refl refl e
  where
    go : (a b : Bool) → (py == y) ≡ a → nat_le px x ≡ b → cond (a && b) (slice_get paints (x - px)) None ≡ Some fragment → (py ≡ y) × (px ≤ x) × (x < px + length paints)
    go true true p q h = let first : px ≤ x = grind (arith, nat_tests, q) in let l = slice_get_within paints (x - px) fragment h in (grind (arith, nat_tests, p), first, omega arith)
    go true false p q h = absurd (cc)
    go false b p q h = absurd (cc)

gives_in_bounds : (shape : Drawing) (x y : ℕ) (fragment : FragmentView) → gives shape x y ≡ Some fragment → CoversPixel (bounds shape) x y
gives_in_bounds (Point px py paint) x y fragment e =
    let at = point_gives px py x y paint fragment e in
    let column = at.0 in
    let row = at.1 in
    record {
      rect = record { x = pos px; y = pos py; w = 1; h = 1 };
      box_is = refl;
      pixel = record { left = omega (arith, ints); right = omega (arith, ints); top = omega (arith, ints); bottom = omega (arith, ints) };
    }
gives_in_bounds (Tri t) x y fragment e = covered_in_box t x y (covered_if (covers t (centre x y)) (shaded t (centre x y)) fragment e)
  where
    covered_if : (b : Bool) (f g : FragmentView) → cond b (Some f) None ≡ Some g → b ≡ true
    covered_if true f g e = refl
    covered_if false f g e = absurd (cc)
gives_in_bounds (Span px py paints) x y fragment e =
    let at = span_gives px py x y paints fragment e in
    let row = at.0 in
    let first = at.1 in
    let last = at.2 in
    record {
      rect = record { x = pos px; y = pos py; w = length paints; h = 1 };
      box_is = refl;
      pixel = record { left = omega (arith, ints); right = omega (arith, ints); top = omega (arith, ints); bottom = omega (arith, ints) };
    }

seen : (p : Pixel) (f : FragmentView) → visible p ≡ Some f → p ≡ Some f
seen None f e = e
seen (Some g) f e = go (g.a == 0) e
  where
    go : (b : Bool) → cond b None (Some g) ≡ Some f → Some g ≡ Some f
    go true e = absurd (cc)
    go false e = e

-- a joined pixel is there where the front or the back is
module _ (mode : Mode) (start : Option Rect) (shape : Drawing) (x y : ℕ) where
  blended_covers : (front before : Pixel) (fragment : FragmentView) → ((f : FragmentView) → front ≡ Some f → CoversPixel (bounds shape) x y) → ((f : FragmentView) → before ≡ Some f → CoversPixel start x y) → joined mode front before ≡ Some fragment → CoversPixel (hull_of start (bounds shape)) x y
  blended_covers None before fragment g h e = covers_left start (bounds shape) x y (h fragment e)
  blended_covers (Some f) before fragment g h e = covers_right start (bounds shape) x y (g f refl)

over_covers : (mode : Mode) (before : Pixel) (shape : Drawing) (start : Option Rect) (x y : ℕ) (fragment : FragmentView) → ((f : FragmentView) → before ≡ Some f → CoversPixel start x y) → drawn_over mode before (gives shape x y) ≡ Some fragment → CoversPixel (hull_of start (bounds shape)) x y
over_covers Depth (Some f) shape start x y fragment h e = covers_left start (bounds shape) x y (h f refl)
over_covers Depth None shape start x y fragment h e = covers_right start (bounds shape) x y (gives_in_bounds shape x y fragment e)
over_covers Blend before shape start x y fragment h e = blended_covers Blend start shape x y (visible (gives shape x y)) before fragment (λ f g. gives_in_bounds shape x y f (seen (gives shape x y) f g)) h e
over_covers WideBlend before shape start x y fragment h e = blended_covers WideBlend start shape x y (visible (gives shape x y)) before fragment (λ f g. gives_in_bounds shape x y f (seen (gives shape x y) f g)) h e

drawn_from : (mode : Mode) (shapes : List Drawing) (before : Pixel) (start : Option Rect) (x y : ℕ) (fragment : FragmentView) → ((f : FragmentView) → before ≡ Some f → CoversPixel start x y) → fold (λ p shape. drawn_over mode p (gives shape x y)) before shapes ≡ Some fragment → CoversPixel (box_from start shapes) x y
drawn_from mode [] before start x y fragment h e = h fragment e
drawn_from mode (shape ∷ shapes) before start x y fragment h e =
    drawn_from mode shapes (drawn_over mode before (gives shape x y)) (hull_of start (bounds shape)) x y fragment (λ f g. over_covers mode before shape start x y f h g) e

pub drawn_in_box : (mode : Mode) (shapes : List Drawing) (x y : ℕ) (fragment : FragmentView) → drawn mode shapes x y ≡ Some fragment → CoversPixel (box shapes) x y
drawn_in_box mode shapes x y fragment e = drawn_from mode shapes None None x y fragment (λ f g. absurd (cc)) e

-- pixel i of an area lies in it
in_area : (area : Area) (i : ℕ) → i < area.w * area.h → HasPixel (rect_of area) (pos (area.x + i % area.w)) (pos (area.y + i / area.w))
in_area area i l =
    let w : 0 < area.w = wide i area.w area.h l in
    let column : i % area.w < area.w = omega arith in
    let row : i / area.w < area.h = grind (arith, mul-le-mul_left) in
    record { left = omega (arith, ints); right = omega (arith, ints); top = omega (arith, ints); bottom = omega (arith, ints) }

covered_meets : (bounds : Option Rect) (area : Area) (i : ℕ) → i < area.w * area.h → CoversPixel bounds (area.x + i % area.w) (area.y + i / area.w) → reaches_into bounds area ≡ true
covered_meets bounds area i l c = ap (λ b. reaches_into b area) c.box_is ∙ pixel_meets c.rect (rect_of area) _ _ c.pixel (in_area area i l)

none_drawn : (mode : Mode) (shapes : List Drawing) (area : Area) (i : ℕ) → reaches_into (box shapes) area ≡ false → i < area.w * area.h → drawn mode shapes (area.x + i % area.w) (area.y + i / area.w) ≡ None
none_drawn mode shapes area i out l = by (drawn mode shapes (area.x + i % area.w) (area.y + i / area.w)) refl
  where
    by : (p : Pixel) → drawn mode shapes (area.x + i % area.w) (area.y + i / area.w) ≡ p → p ≡ None
    by None e = refl
    by (Some f) e = absurd (let met = covered_meets (box shapes) area i l (drawn_in_box mode shapes _ _ f e) in cc)

pub blank_outside : (mode : Mode) (shapes : List Drawing) (area : Area) → reaches_into (box shapes) area ≡ false → full_image mode shapes area ≡ replicate (area.w * area.h) None
blank_outside mode shapes area out =
    map_same (λ i. drawn mode shapes (area.x + i % area.w) (area.y + i / area.w)) (λ i. None) 0 (area.w * area.h) (λ i l.
    let z : 0 + i ≡ i = omega arith in
    ap (λ k. drawn mode shapes (area.x + k % area.w) (area.y + k / area.w)) z ∙ none_drawn mode shapes area i out l)
    ∙ sym (blanks None 0 (area.w * area.h))
