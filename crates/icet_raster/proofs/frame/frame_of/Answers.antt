use Rattle.std.proofs.Common.{◌≡◌, pos, ap, rules, w64, of_z}
use Rattle.icet_raster.specs.Shapes.{triangle_of}
use Rattle.icet_raster.proofs.CoveredInFrame.{framed}
use Rattle.icet_raster.proofs.frame.frame_of.Goals as goal

pub returns-clause-bounds : goal.returns-clause-bounds
returns-clause-bounds c =
    let s = c.spots_of.result in
    let some : c.edge_value-area.result ≡ pos 0 → ⊥ = λ e. c.if-area-eq0.false (ap (of_z w64) e) in
    framed (triangle_of c.args.tri.now) s c.edge_value-area.result _ _ _ _ c.spots_of.ensures c.edge_value-area.ensures.value some (search rules) (search rules) (search rules) (search rules)
