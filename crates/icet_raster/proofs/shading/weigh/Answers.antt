use Rattle.std.proofs.Common.{◌≡◌, ◌≤◌, ◌∙◌, arith, unsigned_abs, rules}
use Rattle.icet_raster.specs.Shapes.{triangle_of}
use Rattle.icet_raster.proofs.CornerWeights.{weighed, whole_is, weights_are}
use Rattle.icet_raster.proofs.shading.weigh.Goals as goal

pub returns-clause-value : goal.returns-clause-value
returns-clause-value c =
    let w = weighed (triangle_of c.args.tri.now) c.args.at c.spots_of.result c.edge_value-first.result c.edge_value-second.result c.edge_value-third.result c.edge_value-area.result c.spots_of.ensures c.edge_value-first.ensures.value c.edge_value-second.ensures.value c.edge_value-third.ensures.value c.edge_value-area.ensures.value in
    let d : c.unsigned_abs.result ≡ unsigned_abs c.edge_value-first.result = search rules in
    let e : c.unsigned_abs-2.result ≡ unsigned_abs c.edge_value-second.result = search rules in
    let f : c.unsigned_abs-3.result ≡ unsigned_abs c.edge_value-third.result = search rules in
    let g : c.unsigned_abs-4.result ≡ unsigned_abs c.edge_value-area.result = search rules in
    weights_are (triangle_of c.args.tri.now) c.args.at _ (d ∙ w.0) (e ∙ w.1) (f ∙ w.2) (g ∙ w.3)

pub returns-clause-sum : goal.returns-clause-sum
returns-clause-sum c =
    let w = weighed (triangle_of c.args.tri.now) c.args.at c.spots_of.result c.edge_value-first.result c.edge_value-second.result c.edge_value-third.result c.edge_value-area.result c.spots_of.ensures c.edge_value-first.ensures.value c.edge_value-second.ensures.value c.edge_value-third.ensures.value c.edge_value-area.ensures.value in
    let d : c.unsigned_abs.result ≡ unsigned_abs c.edge_value-first.result = search rules in
    let e : c.unsigned_abs-2.result ≡ unsigned_abs c.edge_value-second.result = search rules in
    let f : c.unsigned_abs-3.result ≡ unsigned_abs c.edge_value-third.result = search rules in
    let g : c.unsigned_abs-4.result ≡ unsigned_abs c.edge_value-area.result = search rules in
    let s = whole_is (triangle_of c.args.tri.now) c.args.at _ _ _ _ c.requires.covered (d ∙ w.0) (e ∙ w.1) (f ∙ w.2) (g ∙ w.3) in
    let l : unsigned_abs c.edge_value-area.result ≤ 549751619592 = c.edge_value-area.ensures.small in
    record { sum = s.0; some = s.1; small = omega arith }
