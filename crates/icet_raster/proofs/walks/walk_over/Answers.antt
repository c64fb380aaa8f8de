use Rattle.std.proofs.Common.{◌≡◌, pos, arith, ap}
use Rattle.std.proofs.lemmas.List.{get_or_default}
use Rattle.std.proofs.lemmas.Int.{ints}
use Rattle.icet_raster.specs.Shapes.{triangle_of}
use Rattle.icet_raster.proofs.EdgeSteps.{gives-flat, gives-turned, turned-above}
use Rattle.icet_raster.proofs.walks.walk_over.Goals as goal

pub round-requires-then-area-lt0-clause-some : goal.round-requires-then-area-lt0-clause-some
round-requires-then-area-lt0-clause-some c =
    let s = c.spots_of.result in
    turned-above s.a s.b s.c c.edge_value-area.result c.edge_value-area.ensures.value (omega (arith, ints))

pub returns-then-area-lt0-clause-same : goal.returns-then-area-lt0-clause-same
returns-then-area-lt0-clause-same c =
    gives-turned (triangle_of c.args.tri.now) c.spots_of.result _ _ _ c.round-then-area-lt0.result c.spots_of.ensures (ap (λ v. v.paint) (get_or_default c.args.tri.now 0 _ _ (omega arith))) (ap (λ v. v.paint) (get_or_default c.args.tri.now 2 _ _ (omega arith))) (ap (λ v. v.paint) (get_or_default c.args.tri.now 1 _ _ (omega arith))) c.round-then-area-lt0.ensures.walked

pub returns-else-area-lt0-clause-none : goal.returns-else-area-lt0-clause-none
returns-else-area-lt0-clause-none c =
    let flat : c.edge_value-area.result ≡ pos 0 = omega (arith, ints) in
    λ e. gives-flat (triangle_of c.args.tri.now) c.spots_of.result c.edge_value-area.result c.spots_of.ensures c.edge_value-area.ensures.value flat
