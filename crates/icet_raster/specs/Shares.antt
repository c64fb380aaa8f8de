-- Sums by the edges' values, as they are carried from pixel to pixel of a row: as a quotient by the whole weight and a rest.
use Rattle.std.specs.Prelude.{◌≡◌, ℕ, ℤ, pos, ◌+◌, ◌*◌, ◌<◌, ◌≤◌, ◌+ℤ◌, ◌*ℤ◌, ◌≤ℤ◌, unsigned_abs}
use Rattle.icet_model.specs.Pixel.{IsFragment}
use Rattle.icet_scene_model.specs.Triangles.{centre, edge_value}
use Rattle.icet_raster.specs.declared.shares.Share.{Share}
use Rattle.icet_raster.specs.declared.shades.Shades.{Shades}
use Rattle.icet_raster.specs.declared.walks.Walk.{Walk}

-- the sum is the quotient times the whole and the rest, which is less than the whole
pub record IsShare (whole : ℕ) (sum : ℤ) (s : Share) : Type 0 where
  pub sum_is : sum ≡ s.quotient *ℤ pos whole +ℤ pos s.rest
  pub rest : s.rest < whole

-- a number that isn't negative, and at most this
pub record IsUpTo (most : ℕ) (n : ℤ) : Type 0 where
  pub above : pos 0 ≤ℤ n
  pub within : n ≤ℤ pos most

-- the sum of three values by the edges' values at a pixel
abbrev pub weighted : Walk → ℕ → ℕ → ℕ → ℕ → ℕ → ℤ
weighted w x y a b c = (edge_value w.b w.c (centre x y) *ℤ pos a +ℤ edge_value w.c w.a (centre x y) *ℤ pos b) +ℤ edge_value w.a w.b (centre x y) *ℤ pos c

-- by how much it grows from one pixel to the next
abbrev pub growth : Walk → ℕ → ℕ → ℕ → ℤ
growth w a b c = (w.step_a *ℤ pos a +ℤ w.step_b *ℤ pos b) +ℤ w.step_c *ℤ pos c

-- the share of three values at a pixel
pub record IsShareAt (w : Walk) (x y a b c : ℕ) (s : Share) : Type 0 where
  pub share : IsShare w.whole (weighted w x y a b c) s
  pub small : unsigned_abs s.quotient ≤ 16777214 + 422212465065984 * x

-- the share of their growth
pub record IsSlope (w : Walk) (a b c : ℕ) (s : Share) : Type 0 where
  pub share : IsShare w.whole (growth w a b c) s
  pub small : unsigned_abs s.quotient ≤ 422212465065983

-- the shares of what a fragment has, at a pixel
pub record AreShadesAt (w : Walk) (x y : ℕ) (s : Shades) : Type 0 where
  pub r : IsShareAt w x y w.first.r w.second.r w.third.r s.r
  pub g : IsShareAt w x y w.first.g w.second.g w.third.g s.g
  pub b : IsShareAt w x y w.first.b w.second.b w.third.b s.b
  pub a : IsShareAt w x y w.first.a w.second.a w.third.a s.a
  pub z : IsShareAt w x y w.first.z w.second.z w.third.z s.z

-- the shares by which these grow
pub record AreSlopes (w : Walk) (s : Shades) : Type 0 where
  pub r : IsSlope w w.first.r w.second.r w.third.r s.r
  pub g : IsSlope w w.first.g w.second.g w.third.g s.g
  pub b : IsSlope w w.first.b w.second.b w.third.b s.b
  pub a : IsSlope w w.first.a w.second.a w.third.a s.a
  pub z : IsSlope w w.first.z w.second.z w.third.z s.z
  pub first : IsFragment w.first
  pub second : IsFragment w.second
  pub third : IsFragment w.third
