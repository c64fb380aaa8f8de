use Rattle.std.proofs.Common.{◌≡◌, ◌∙◌, arith, unsigned_abs, rules}
use Rattle.std.proofs.lemmas.Int.{ints}
use Rattle.icet_scene_model.specs.Triangles.{centre}
use Rattle.icet_raster.specs.Shapes.{triangle_of}
use Rattle.icet_raster.proofs.CornerWeights.{covers-above}
use Rattle.icet_raster.proofs.triangles.covers.Goals as goal

pub returns-then-area-gt0 : goal.returns-then-area-gt0
returns-then-area-gt0 c =
    let at = centre (unsigned_abs c.args.x) (unsigned_abs c.args.y) in
    let e : c.centre-at.result ≡ at = search rules in
    c.is_within.ensures ∙ covers-above (triangle_of c.args.tri.now) at c.centre-at.result c.spots_of.result c.edge_value-area.result c.spots_of.ensures e c.edge_value-area.ensures.value (omega (arith, ints))
