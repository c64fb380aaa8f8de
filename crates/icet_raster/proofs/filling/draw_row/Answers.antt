use Rattle.std.proofs.Common.{◌≡◌, ◌+◌, ◌-◌, ◌*◌, ◌<◌, ◌≤◌, unsigned_abs, subst, arith, rules}
use Rattle.icet_scene_model.specs.Raster.{Tri}
use Rattle.icet_model.specs.Tiles.{area_of}
use Rattle.icet_raster.specs.Walks.{AreValues, walked}
use Rattle.icet_raster.specs.Stretches.{Draws}
use Rattle.icet_raster.proofs.StretchesDrawn.{draws-join, row-covered, row-uncovered, stretch-moves}
use Rattle.icet_raster.proofs.filling.draw_row.Goals as goal

pub draw_stretch-requires-clause-stretch : goal.draw_stretch-requires-clause-stretch
draw_stretch-requires-clause-stretch c =
    let l : c.unsigned_abs-left.result ≡ unsigned_abs c.args.area.x = search rules in
    let t : c.unsigned_abs.result ≡ unsigned_abs c.args.area.y = search rules in
    let y : c.unsigned_abs.result + c.args.row ≡ unsigned_abs c.args.area.y + c.args.row = omega (arith, t) in
    row-covered (walked c.args.walk.now) (area_of c.args.area) c.args.row c.stretch_end-start.result.column c.stretch_end-end.result.column c.unsigned_abs-left.result (c.unsigned_abs.result + c.args.row) l y c.stretch_end-end.ensures.order (omega (arith, c.stretch_end-end.ensures.within, c.requires.part.width)) c.stretch_end-end.ensures.all

pub draw_stretch-requires-clause-values : goal.draw_stretch-requires-clause-values
draw_stretch-requires-clause-values c =
    let l : c.unsigned_abs-left.result ≡ unsigned_abs c.args.area.x = search rules in
    let t : c.unsigned_abs.result ≡ unsigned_abs c.args.area.y = search rules in
    rw (← l, ← t) c.stretch_end-start.ensures.values

pub stretches-smaller : goal.stretches-smaller
stretches-smaller c =
    let m = stretch-moves (walked c.args.walk.now) c.unsigned_abs-left.result (c.unsigned_abs.result + c.args.row) c.stretches.reached.column c.stretch_end-start.result.column c.stretch_end-end.result.column c.args.part.to c.stretches-test.true c.stretch_end-start.ensures.order c.stretch_end-end.ensures.order c.stretch_end-start.ensures.stop c.stretch_end-end.ensures.stop in
    omega (arith, m, c.stretches-test.true)

pub stretches-preserved : goal.stretches-preserved
stretches-preserved c =
    let l : c.unsigned_abs-left.result ≡ unsigned_abs c.args.area.x = search rules in
    let t : c.unsigned_abs.result ≡ unsigned_abs c.args.area.y = search rules in
    let m = c.args.mode in
    let s = Tri (walked c.args.walk.now) in
    let a = area_of c.args.area in
    let b = c.args.row * c.args.area.w in
    let before = c.stretches.image.pixels in
    let start = c.stretch_end-start.result.column in
    let end = c.stretch_end-end.result.column in
    let gap = row-uncovered m (walked c.args.walk.now) a c.args.row c.stretches.reached.column start before (omega (arith, c.stretch_end-start.ensures.within, c.requires.part.width)) (λ k lo hi. rw (← l, ← t) (c.stretch_end-start.ensures.all k lo hi)) in
    let front = draws-join m s a (b + c.args.part.from) (b + c.stretches.reached.column) (b + start) c.args.image.now.pixels before before (omega (arith, c.stretches.invariant.from)) (omega (arith, c.stretch_end-start.ensures.order)) c.stretches.invariant.drawn gap in
    record {
      width = c.draw_stretch.ensures.width;
      height = c.draw_stretch.ensures.height;
      from = omega (arith, c.stretches.invariant.from, c.stretch_end-start.ensures.order, c.stretch_end-end.ensures.order);
      to = c.stretch_end-end.ensures.within;
      values = c.stretch_end-end.ensures.values;
      drawn = draws-join m s a (b + c.args.part.from) (b + start) (b + end) c.args.image.now.pixels before c.draw_stretch.new.image.pixels (omega (arith, c.stretches.invariant.from, c.stretch_end-start.ensures.order)) (omega (arith, c.stretch_end-end.ensures.order)) front c.draw_stretch.ensures.drawn;
    }

pub returns-clause-drawn : goal.returns-clause-drawn
returns-clause-drawn c =
    let end : c.stretches.reached.column ≡ c.args.part.to = omega (arith, c.stretches-test.false, c.stretches.invariant.to) in
    subst (λ n. Draws c.args.mode (Tri (walked c.args.walk.now)) (area_of c.args.area) (c.args.row * c.args.area.w + c.args.part.from) (c.args.row * c.args.area.w + n) c.args.image.now.pixels c.stretches.image.pixels) end c.stretches.invariant.drawn
