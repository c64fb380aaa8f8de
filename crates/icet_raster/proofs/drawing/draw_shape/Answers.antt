use Rattle.std.proofs.Common.{rules, ◌≡◌, unsigned_abs, ap, sym, ◌∙◌, ◌++◌, ◌∷◌, []}
use Rattle.icet_scene_model.specs.Raster.{Point, Tri, Span, full_image}
use Rattle.icet_model.specs.Tiles.{area_of}
use Rattle.icet_raster.specs.Shapes.{drawing_of, triangle_of}
use Rattle.icet_raster.proofs.StretchesDrawn.{draws-all, point_drawn}
use Rattle.icet_raster.proofs.drawing.draw_shape.Goals as goal

pub returns-in-Tri-clause-pixels : goal.returns-in-Tri-clause-pixels
returns-in-Tri-clause-pixels c = λ before same.
    draws-all c.args.mode (Tri (triangle_of c.in-Tri.corners)) before (area_of c.args.area) _ _ c.draw_triangle.ensures.drawn same
    ∙ ap (λ s. full_image c.args.mode (before ++ drawing_of s ∷ []) (area_of c.args.area)) (sym c.in-Tri.is)

pub returns-in-Point-clause-pixels : goal.returns-in-Point-clause-pixels
returns-in-Point-clause-pixels c = λ before same.
    let x : c.unsigned_abs.result ≡ unsigned_abs c.in-Point.x = search rules in
    let y : c.unsigned_abs-in-Point.result ≡ unsigned_abs c.in-Point.y = search rules in
    let d = point_drawn c.args.mode _ _ c.in-Point.paint (area_of c.args.area) _ _ _ _ c.draw_paints.ensures.drawn in
    draws-all c.args.mode (Point (unsigned_abs c.in-Point.x) (unsigned_abs c.in-Point.y) c.in-Point.paint) before (area_of c.args.area) _ _ (rw (← x, ← y) d) same
    ∙ ap (λ s. full_image c.args.mode (before ++ drawing_of s ∷ []) (area_of c.args.area)) (sym c.in-Point.is)

pub returns-in-Span-clause-pixels : goal.returns-in-Span-clause-pixels
returns-in-Span-clause-pixels c = λ before same.
    let x : c.unsigned_abs-in-Span.result ≡ unsigned_abs c.in-Span.x = search rules in
    let y : c.unsigned_abs-in-Span-2.result ≡ unsigned_abs c.in-Span.y = search rules in
    draws-all c.args.mode (Span (unsigned_abs c.in-Span.x) (unsigned_abs c.in-Span.y) c.in-Span.paints) before (area_of c.args.area) _ _ (rw (← x, ← y, ← c.as_slice.ensures.paints) c.draw_paints-in-Span.ensures.drawn) same
    ∙ ap (λ s. full_image c.args.mode (before ++ drawing_of s ∷ []) (area_of c.args.area)) (sym c.in-Span.is)
