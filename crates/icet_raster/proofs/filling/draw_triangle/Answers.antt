use Rattle.std.proofs.Common.{◌≡◌, ℕ, ℤ, w32, to_z, of_z, unsigned_abs, sym, ◌∙◌, arith, rules}
use Rattle.std.proofs.lemmas.Int.{ints}
use Rattle.icet_scene_model.specs.Raster.{Tri}
use Rattle.icet_model.specs.Tiles.{area_of}
use Rattle.icet_raster.specs.Boxes.{IsSpan}
use Rattle.icet_raster.specs.Shapes.{triangle_of}
use Rattle.icet_raster.specs.Walks.{walked}
use Rattle.icet_raster.proofs.StretchesDrawn.{cut-by, no-frame, draws-like}
use Rattle.icet_raster.proofs.filling.draw_triangle.Goals as goal

passed : (z : ℤ) (n : ℕ) → IsSpan z n → IsSpan (to_z w32 (of_z w32 z)) n
passed z n h = let a = h.least in let b = h.within in let e : to_z w32 (of_z w32 z) ≡ z = omega (arith, ints) in rw e h

pub cut-from-requires-clause-other : goal.cut-from-requires-clause-other
cut-from-requires-clause-other c = passed _ _ (c.frame_of.ensures.near _ c.in-Some-frame_of.is).columns

pub cut-top-requires-clause-other : goal.cut-top-requires-clause-other
cut-top-requires-clause-other c = passed _ _ (c.frame_of.ensures.near _ c.in-Some-frame_of.is).rows

pub draw_rows-requires-clause-seen : goal.draw_rows-requires-clause-seen
draw_rows-requires-clause-seen c =
    let near = c.frame_of.ensures.near _ c.in-Some-frame_of.is in
    let x : to_z w32 (of_z w32 c.in-Some-frame_of.frame.x) ≡ c.in-Some-frame_of.frame.x = omega (arith, ints, near.columns.least, near.columns.within) in
    let y : to_z w32 (of_z w32 c.in-Some-frame_of.frame.y) ≡ c.in-Some-frame_of.frame.y = omega (arith, ints, near.rows.least, near.rows.within) in
    let l : c.unsigned_abs.result ≡ unsigned_abs c.args.area.x = search rules in
    let t : c.unsigned_abs-in-Some-frame_of.result ≡ unsigned_abs c.args.area.y = search rules in
    cut-by (triangle_of c.args.tri.now) (walked c.in-Some.walk) (area_of c.args.area) c.in-Some-frame_of.frame _
    c.in-Some.ensures.same (sym c.frame_of.ensures.bounds ∙ c.in-Some-frame_of.is)
    (λ p m f g. c.cut-from.ensures.inside p m (rw (x, l) f) (rw (x, l) g))
    (λ p m f g. c.cut-top.ensures.inside p m (rw (y, t) f) (rw (y, t) g))

pub returns-in-Some-frame_of-clause-drawn : goal.returns-in-Some-frame_of-clause-drawn
returns-in-Some-frame_of-clause-drawn c =
    let s = c.in-Some.ensures in
    draws-like c.args.mode (Tri (triangle_of c.args.tri.now)) (Tri (walked c.in-Some.walk)) (area_of c.args.area) _ _ _ _ s.same c.draw_rows.ensures.drawn

pub returns-in_default-frame_of-clause-drawn : goal.returns-in_default-frame_of-clause-drawn
returns-in_default-frame_of-clause-drawn c =
    no-frame c.args.mode (triangle_of c.args.tri.now) (area_of c.args.area) _ _ _ (sym c.frame_of.ensures.bounds ∙ c.in_default-frame_of.is)
