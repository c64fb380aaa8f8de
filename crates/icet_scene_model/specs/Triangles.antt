-- Triangles: which pixels one covers, and what it gives there.
use Rattle.std.specs.Prelude.{ℕ, zero, suc, ℤ, pos, negsuc, ◌+◌, ◌*◌, ◌/◌, ◌-ℤ◌, ◌*ℤ◌, unsigned_abs, Bool, true, false, ◌&&◌}
use Rattle.icet_scene_model.specs.declared.spot.Spot.{Spot}
use Rattle.icet_model.specs.Pixel.{FragmentView}

-- a corner: its spot and its paint
pub record Corner : Type 0 where
  pub spot : Spot
  pub paint : FragmentView

pub record Triangle : Type 0 where
  pub a : Corner
  pub b : Corner
  pub c : Corner

-- the centre of the pixel at x and y; a pixel is sixteen sixteenths wide and high
abbrev pub centre : ℕ → ℕ → Spot
centre x y = record { x = pos (16 * x + 8); y = pos (16 * y + 8) }

-- what to take by a number's sign: below 0, at 0, above 0
abbrev pub by_sign : {A : Type 0} → ℤ → A → A → A → A
by_sign (negsuc n) below at above = below
by_sign (pos zero) below at above = at
by_sign (pos (suc n)) below at above = above

-- the value of the edge from one spot to another at a third: 0 on the line through both, and positive to the right of it, as one goes
unfoldable pub edge_value : Spot → Spot → Spot → ℤ
edge_value from to at = (to.x -ℤ from.x) *ℤ (at.y -ℤ from.y) -ℤ (to.y -ℤ from.y) *ℤ (at.x -ℤ from.x)

-- the edge goes upwards, so that the inside lies on its right: a left edge; or level to the right: a top edge
abbrev pub is_top_or_left : Spot → Spot → Bool
is_top_or_left from to = by_sign (to.y -ℤ from.y) true (by_sign (to.x -ℤ from.x) false false true) false

-- on the inner side of the edge, or on the edge itself where it is a top or a left edge
abbrev pub is_inside : Spot → Spot → Spot → Bool
is_inside from to at = by_sign (edge_value from to at) false (is_top_or_left from to) true

-- inside of the three edges from corner to corner
abbrev pub is_within : Spot → Spot → Spot → Spot → Bool
is_within a b c at = is_inside a b at && is_inside b c at && is_inside c a at

-- twice the area of three corners, which is negative where they go round the other way
abbrev pub doubled_area : Triangle → ℤ
doubled_area t = edge_value t.a.spot t.b.spot t.c.spot

-- the triangle covers the spot: where its doubled area is negative the last two corners are exchanged, and where it is 0 nothing is covered
abbrev pub covers : Triangle → Spot → Bool
covers t at = by_sign (doubled_area t) (is_within t.a.spot t.c.spot t.b.spot at) false (is_within t.a.spot t.b.spot t.c.spot at)

-- how much each corner weighs at a spot: the value of the edge that doesn't touch it. Where the spot is covered these values and the doubled area are of one sign, so that magnitudes say all
pub record Weights : Type 0 where
  pub a : ℕ
  pub b : ℕ
  pub c : ℕ
  pub whole : ℕ

unfoldable pub weights : Triangle → Spot → Weights
weights t at = record {
  a = unsigned_abs (edge_value t.b.spot t.c.spot at);
  b = unsigned_abs (edge_value t.c.spot t.a.spot at);
  c = unsigned_abs (edge_value t.a.spot t.b.spot at);
  whole = unsigned_abs (doubled_area t);
}

-- the mean of the corners' values by their weights, rounded down
abbrev pub mean : Weights → ℕ → ℕ → ℕ → ℕ
mean w a b c = (w.a * a + w.b * b + w.c * c) / w.whole

-- depth, colour and alpha are each such a mean
abbrev pub mixed : Weights → FragmentView → FragmentView → FragmentView → FragmentView
mixed w a b c = record { r = mean w a.r b.r c.r; g = mean w a.g b.g c.g; b = mean w a.b b.b c.b; a = mean w a.a b.a c.a; z = mean w a.z b.z c.z }

-- what the triangle gives where it covers
abbrev pub shaded : Triangle → Spot → FragmentView
shaded t at = mixed (weights t at) t.a.paint t.b.paint t.c.paint
