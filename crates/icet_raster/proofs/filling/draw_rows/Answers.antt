use Rattle.std.proofs.Common.{◌≡◌, ◌+◌, ◌*◌, ◌≤◌, subst, arith}
use Rattle.std.proofs.Math.Nat.{mul-le-mul_right}
use Rattle.icet_scene_model.specs.Raster.{Tri}
use Rattle.icet_model.specs.Tiles.{area_of}
use Rattle.icet_raster.specs.Walks.{walked}
use Rattle.icet_raster.specs.Stretches.{Draws}
use Rattle.icet_raster.proofs.StretchesDrawn.{draws-join, row-front, row-back, rows-above, rows-below}
use Rattle.icet_raster.proofs.filling.draw_rows.Goals as goal

pub loop-row-init : goal.loop-row-init
loop-row-init c = record {
  width = c.requires.width;
  height = c.requires.height;
  drawn = rows-above c.args.mode (Tri (walked c.args.walk.now)) (area_of c.args.area) c.args.part c.args.image.now.pixels c.requires.seen (omega (arith, c.requires.part.rows, c.requires.part.height));
}

pub loop-row-preserved : goal.loop-row-preserved
loop-row-preserved c =
    let m = c.args.mode in
    let t = Tri (walked c.args.walk.now) in
    let a = area_of c.args.area in
    let w = c.args.area.w in
    let r = c.loop-row.row in
    let part = c.requires.part in
    let before = c.loop-row.image.pixels in
    let after = c.draw_row.new.image.pixels in
    let front = row-front m t a c.args.part before c.requires.seen r (omega (arith, part.columns, part.width)) in
    let back = row-back m t a c.args.part after c.requires.seen r in
    let row = draws-join m t a (r * w) (r * w + c.args.part.from) (r * w + c.args.part.to) before before after (omega arith) (omega (arith, part.columns)) front c.draw_row.ensures.drawn in
    let whole = draws-join m t a (r * w) (r * w + c.args.part.to) ((r + 1) * w) before after after (omega arith) (omega (arith, part.width)) row back in
    record {
      width = c.draw_row.ensures.width;
      height = c.draw_row.ensures.height;
      drawn = draws-join m t a 0 (r * w) ((r + 1) * w) c.args.image.now.pixels before after (omega arith) (omega arith) c.loop-row.invariant.drawn whole;
    }

pub returns-clause-drawn : goal.returns-clause-drawn
returns-clause-drawn c =
    let m = c.args.mode in
    let t = Tri (walked c.args.walk.now) in
    let a = area_of c.args.area in
    let w = c.args.area.w in
    let part = c.requires.part in
    let end : c.loop-row.row ≡ c.args.part.bottom = omega (arith, c.loop-row-test.false, c.loop-row.auto.row-end, part.rows) in
    let low : c.args.part.bottom * w ≤ w * c.args.area.h = omega (arith, mul-le-mul_right w part.height) in
    draws-join m t a 0 (c.args.part.bottom * w) (w * c.args.area.h) c.args.image.now.pixels c.loop-row.image.pixels c.loop-row.image.pixels (omega arith) low
    (subst (λ n. Draws m t a 0 (n * w) c.args.image.now.pixels c.loop-row.image.pixels) end c.loop-row.invariant.drawn)
    (rows-below m t a c.args.part c.loop-row.image.pixels c.requires.seen)
