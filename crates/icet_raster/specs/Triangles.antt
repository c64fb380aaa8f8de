-- Corners' spots, and weights that may be mixed by.
use Rattle.std.specs.Prelude.{◌≡◌, ◌+◌, ◌<◌, ◌≤◌}
use Rattle.icet_scene_model.specs.Triangles.{Triangle, Weights as ModelWeights}
use Rattle.icet_raster.specs.declared.edge.Spots.{Spots}
use Rattle.icet_raster.specs.declared.shading.Weights.{Weights}
use Rattle.icet_raster.specs.Shapes.{IsOnPlane}

-- the corners' spots, all on the plane
pub record AreSpotsOf (t : Triangle) (s : Spots) : Type 0 where
  pub a : s.a ≡ t.a.spot
  pub b : s.b ≡ t.b.spot
  pub c : s.c ≡ t.c.spot
  pub a_plane : IsOnPlane s.a
  pub b_plane : IsOnPlane s.b
  pub c_plane : IsOnPlane s.c

abbrev pub weights_of : Weights → ModelWeights
weights_of w = record { a = w.a; b = w.b; c = w.c; whole = w.whole }

-- weights that sum up to the whole
pub record AreWeights (w : Weights) : Type 0 where
  pub sum : w.a + w.b + w.c ≡ w.whole
  pub some : 0 < w.whole
  pub small : w.whole ≤ 549751619592
