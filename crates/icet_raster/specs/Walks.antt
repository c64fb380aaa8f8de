-- A triangle and its edges, as they are carried from pixel to pixel of a row.
use Rattle.std.specs.Prelude.{◌≡◌, ℕ, pos, ◌+◌, ◌*◌, ◌<◌, ◌≤◌, ◌-ℤ◌, ◌*ℤ◌, unsigned_abs}
use Rattle.icet_scene_model.specs.Triangles.{Triangle, centre, doubled_area, edge_value, is_top_or_left}
use Rattle.icet_raster.specs.declared.walks.Walk.{Walk}
use Rattle.icet_raster.specs.declared.walks.Values.{Values}
use Rattle.icet_raster.specs.Shapes.{IsOnPlane}

-- the triangle that is walked
abbrev pub walked : Walk → Triangle
walked w = record { a = record { spot = w.a; paint = w.first }; b = record { spot = w.b; paint = w.second }; c = record { spot = w.c; paint = w.third } }

-- its corners go round so that the doubled area is positive, and what is kept of its edges is so
pub record IsWalk (w : Walk) : Type 0 where
  pub a : IsOnPlane w.a
  pub b : IsOnPlane w.b
  pub c : IsOnPlane w.c
  pub whole : pos w.whole ≡ doubled_area (walked w)
  pub some : 0 < w.whole
  pub small : w.whole ≤ 549751619592
  pub top_a : w.top_a ≡ is_top_or_left w.b w.c
  pub top_b : w.top_b ≡ is_top_or_left w.c w.a
  pub top_c : w.top_c ≡ is_top_or_left w.a w.b
  pub step_a : w.step_a ≡ pos 16 *ℤ (w.b.y -ℤ w.c.y)
  pub step_b : w.step_b ≡ pos 16 *ℤ (w.c.y -ℤ w.a.y)
  pub step_c : w.step_c ≡ pos 16 *ℤ (w.a.y -ℤ w.b.y)
  pub small_a : unsigned_abs w.step_a ≤ 8388576
  pub small_b : unsigned_abs w.step_b ≤ 8388576
  pub small_c : unsigned_abs w.step_c ≤ 8388576

-- the values of its three edges at a pixel
pub record AreValues (w : Walk) (x y : ℕ) (v : Values) : Type 0 where
  pub a : v.a ≡ edge_value w.b w.c (centre x y)
  pub b : v.b ≡ edge_value w.c w.a (centre x y)
  pub c : v.c ≡ edge_value w.a w.b (centre x y)
  pub small_a : unsigned_abs v.a ≤ 549751619592 + 8388576 * x
  pub small_b : unsigned_abs v.b ≤ 549751619592 + 8388576 * x
  pub small_c : unsigned_abs v.c ≤ 549751619592 + 8388576 * x
