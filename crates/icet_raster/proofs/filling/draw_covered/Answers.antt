use Rattle.std.proofs.Common.{◌≡◌, ◌+◌, ◌*◌, ◌<◌, ◌≤◌, unsigned_abs, subst, arith, rules}
use Rattle.icet_scene_model.specs.Raster.{Tri}
use Rattle.icet_model.specs.Tiles.{area_of}
use Rattle.icet_raster.specs.Shares.{AreShadesAt}
use Rattle.icet_raster.specs.Walks.{walked}
use Rattle.icet_raster.specs.Stretches.{Draws}
use Rattle.icet_raster.proofs.StretchesDrawn.{draws-join, place_of}
use Rattle.icet_raster.proofs.filling.draw_covered.Goals as goal

pub shades_at-shades-requires-clause-values : goal.shades_at-shades-requires-clause-values
shades_at-shades-requires-clause-values c =
    let l : c.unsigned_abs-left.result ≡ unsigned_abs c.args.area.x = search rules in
    let t : c.unsigned_abs.result ≡ unsigned_abs c.args.area.y = search rules in
    rw (l, t) c.requires.values

pub draw_shade-requires-clause-place : goal.draw_shade-requires-clause-place
draw_shade-requires-clause-place c =
    let l : c.unsigned_abs-left.result ≡ unsigned_abs c.args.area.x = search rules in
    let t : c.unsigned_abs.result ≡ unsigned_abs c.args.area.y = search rules in
    let inside : c.loop-column.column < c.args.area.w = omega (arith, c.loop-column-test.true, c.requires.stretch.within) in
    rw (l, t) (place_of (area_of c.args.area) c.args.row c.loop-column.column c.requires.row inside)

pub draw_shade-requires-clause-covered : goal.draw_shade-requires-clause-covered
draw_shade-requires-clause-covered c =
    let l : c.unsigned_abs-left.result ≡ unsigned_abs c.args.area.x = search rules in
    let t : c.unsigned_abs.result ≡ unsigned_abs c.args.area.y = search rules in
    rw (l, t) (c.requires.stretch.all c.loop-column.column c.loop-column.auto.column c.loop-column-test.true)

pub loop-column-preserved : goal.loop-column-preserved
loop-column-preserved c =
    let next : (c.unsigned_abs-left.result + c.loop-column.column) + 1 ≡ c.unsigned_abs-left.result + (c.loop-column.column + 1) = omega arith in
    let after : (c.args.row * c.args.area.w + c.loop-column.column) + 1 ≡ c.args.row * c.args.area.w + (c.loop-column.column + 1) = omega arith in
    let so_far : c.args.row * c.args.area.w + c.args.start.column ≤ c.args.row * c.args.area.w + c.loop-column.column = omega (arith, c.loop-column.auto.column) in
    let one : c.args.row * c.args.area.w + c.loop-column.column ≤ (c.args.row * c.args.area.w + c.loop-column.column) + 1 = omega arith in
    record {
      width = c.draw_shade.ensures.width;
      height = c.draw_shade.ensures.height;
      shades = subst (λ n. AreShadesAt c.args.walk.now n (c.unsigned_abs.result + c.args.row) c.next_shades-shades.result) next c.next_shades-shades.ensures;
      drawn = subst (λ n. Draws c.args.mode (Tri (walked c.args.walk.now)) (area_of c.args.area) (c.args.row * c.args.area.w + c.args.start.column) n c.args.image.now.pixels c.draw_shade.new.image.pixels) after
          (draws-join c.args.mode (Tri (walked c.args.walk.now)) (area_of c.args.area) _ _ _ c.args.image.now.pixels c.loop-column.image.pixels c.draw_shade.new.image.pixels so_far one c.loop-column.invariant.drawn c.draw_shade.ensures.drawn);
    }

pub returns-clause-drawn : goal.returns-clause-drawn
returns-clause-drawn c =
    let end : c.loop-column.column ≡ c.args.to = omega (arith, c.loop-column-test.false, c.loop-column.auto.column-end, c.requires.stretch.order) in
    subst (λ n. Draws c.args.mode (Tri (walked c.args.walk.now)) (area_of c.args.area) (c.args.row * c.args.area.w + c.args.start.column) (c.args.row * c.args.area.w + n) c.args.image.now.pixels c.loop-column.image.pixels) end c.loop-column.invariant.drawn
