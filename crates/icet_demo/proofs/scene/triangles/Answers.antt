use Rattle.std.proofs.Common.{◌≡◌, ◌∙◌, ◌/◌, ◌≤◌, ap, map, arith}
use Rattle.std.specs.List.{range_with_len}
use Rattle.icet_scene_model.specs.Raster.{Tri}
use Rattle.icet_scene_model.specs.Triangles.{Triangle}
use Rattle.icet_raster.specs.declared.shape.Shape.TheVariants.{Tri as TriShape}
use Rattle.icet_demo.specs.Demonstration.{generator, placed_from}
use Rattle.icet_demo.proofs.Drawing.{none_drawn, one_drawn}
use Rattle.icet_demo.proofs.scene.triangles.Goals as goal

pub loop-i-init : goal.loop-i-init
loop-i-init c = rw c.new-all.ensures.items (none_drawn c.args.seed c.new-rng.result c.new-rng.ensures)

pub loop-i-preserved : goal.loop-i-preserved
loop-i-preserved c =
    let l = c.loop-i in
    let drawn = c.next_corners-corners.ensures in
    let is = ap (λ (t : Triangle). record { rank = l.i / 25; shape = Tri t }) drawn.corners in
    one_drawn c.args.seed l.i l.rng c.next_corners-corners.new.rng l.all.items c.push.new.self.items (TriShape c.next_corners-corners.result) l.invariant (omega (arith, c.loop-i-test.true)) is drawn.next drawn.on_plane c.in_ok-push.ensures.items

pub returns-clause-shapes : goal.returns-clause-shapes
returns-clause-shapes c =
    let n : c.loop-i.i ≡ 400 = omega (arith, c.loop-i-test.false, c.loop-i.auto.i-end) in
    c.loop-i.invariant.shapes ∙ ap (λ k. map (placed_from (generator c.args.seed)) (range_with_len 0 k)) n
