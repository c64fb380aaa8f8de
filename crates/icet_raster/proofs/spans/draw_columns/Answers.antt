use Rattle.std.proofs.Common.{◌≡◌, ℕ, ◌+◌, ◌-◌, ◌*◌, ◌<◌, ◌≤◌, List, length, unsigned_abs, get_or, set, refl, ap, sym, subst, arith, rules, Some, None}
use Rattle.std.specs.Prelude.{slice_get}
use Rattle.std.proofs.Math.Nat.{mul-le-mul_right}
use Rattle.std.proofs.lemmas.Option.{slice_get_read}
use Rattle.icet_model.specs.declared.names.Mode.{Mode}
use Rattle.icet_model.specs.Pixel.{FragmentView, Pixel}
use Rattle.icet_model.specs.Tiles.{Area, area_of}
use Rattle.icet_scene_model.specs.Raster.{Span, drawn_over}
use Rattle.icet_raster.specs.Stretches.{Draws, IsSeenWithin}
use Rattle.icet_raster.proofs.StretchesDrawn.{draws-join, draws-set, row-front, row-back, rows-above, rows-below, row_part, span_within, span_given}
use Rattle.icet_raster.proofs.spans.draw_columns.Goals as goal

-- before the first column nothing is drawn yet
starts : (mode : Mode) (x row from to : ℕ) (paints : List FragmentView) (area : Area) (old : List Pixel) → IsSeenWithin (Span x (area.y + row) paints) area (row_part row from to) → row < area.h → from ≤ to → to ≤ area.w
    → Draws mode (Span x (area.y + row) paints) area 0 (row * area.w + from) old old
starts mode x row from to paints area old seen l m n =
    let s = Span x (area.y + row) paints in
    draws-join mode s area 0 (row * area.w) (row * area.w + from) old old old (omega arith) (omega arith)
    (rows-above mode s area (row_part row from to) old seen (omega arith))
    (row-front mode s area (row_part row from to) old seen row (omega arith))

-- behind the last column nothing is left to draw
ends : (mode : Mode) (x row from to : ℕ) (paints : List FragmentView) (area : Area) (old new : List Pixel) → IsSeenWithin (Span x (area.y + row) paints) area (row_part row from to) → row < area.h → to ≤ area.w
    → Draws mode (Span x (area.y + row) paints) area 0 (row * area.w + to) old new → Draws mode (Span x (area.y + row) paints) area 0 (area.w * area.h) old new
ends mode x row from to paints area old new seen l n d =
    let s = Span x (area.y + row) paints in
    let low : (row + 1) * area.w ≤ area.w * area.h = omega (arith, mul-le-mul_right area.w (let e : row + 1 ≤ area.h = omega arith in e)) in
    draws-join mode s area 0 ((row + 1) * area.w) (area.w * area.h) old new new (omega arith) low
    (draws-join mode s area 0 (row * area.w + to) ((row + 1) * area.w) old new new (omega arith) (omega arith) d (row-back mode s area (row_part row from to) new seen row))
    (rows-below mode s area (row_part row from to) new seen)

-- one column more
goes_on : (mode : Mode) (x row column : ℕ) (paints : List FragmentView) (paint : FragmentView) (area : Area) (old pixels new : List Pixel) → row < area.h → column < area.w → x ≤ area.x + column → slice_get paints (area.x + column - x) ≡ Some paint
    → row * area.w + column < length pixels → new ≡ set pixels (row * area.w + column) (drawn_over mode (get_or pixels (row * area.w + column) None) (Some paint))
    → Draws mode (Span x (area.y + row) paints) area 0 (row * area.w + column) old pixels → Draws mode (Span x (area.y + row) paints) area 0 (row * area.w + (column + 1)) old new
goes_on mode x row column paints paint area old pixels new l m h e n is d =
    let s = Span x (area.y + row) paints in
    let next : (row * area.w + column) + 1 ≡ row * area.w + (column + 1) = omega arith in
    let given = span_given x row column paints paint area l m h e in
    let one = draws-set mode s area (row * area.w + column) pixels (drawn_over mode (get_or pixels (row * area.w + column) None) (Some paint)) n (ap (drawn_over mode (get_or pixels (row * area.w + column) None)) (sym given)) in
    subst (λ k. Draws mode s area 0 k old new) next
    (draws-join mode s area 0 (row * area.w + column) ((row * area.w + column) + 1) old pixels new (omega arith) (omega arith) d
    (subst (λ ps. Draws mode s area (row * area.w + column) ((row * area.w + column) + 1) pixels ps) (sym is) one))

pub loop-column-init : goal.loop-column-init
loop-column-init c =
    let left : c.unsigned_abs-left.result ≡ unsigned_abs c.args.area.x = search rules in
    let seen = span_within c.args.x c.args.row c.columns-from.result.0 c.columns-from.result.1 c.args.paints.now (area_of c.args.area) (rw (← left) c.columns-from.ensures.inside) in
    record {
      width = c.requires.width;
      height = c.requires.height;
      drawn = starts c.args.mode c.args.x c.args.row c.columns-from.result.0 c.columns-from.result.1 c.args.paints.now (area_of c.args.area) c.args.image.now.pixels seen c.requires.row c.columns-from.ensures.order c.columns-from.ensures.within;
    }

pub loop-column-preserved : goal.loop-column-preserved
loop-column-preserved c =
    let left : c.unsigned_abs-left.result ≡ unsigned_abs c.args.area.x = search rules in
    let there = c.columns-from.ensures.only c.loop-column.column c.loop-column.auto.column c.loop-column-test.true in
    let first = there.0 in
    let last = there.1 in
    let paint = slice_get_read c.args.paints.now (length c.args.paints.now) (c.unsigned_abs-left.result + c.loop-column.column - c.args.x) c.index-paints-left.result refl (omega arith) c.index-paints-left.is in
    record {
      width = search rules;
      height = search rules;
      drawn = goes_on c.args.mode c.args.x c.args.row c.loop-column.column c.args.paints.now c.index-paints-left.result (area_of c.args.area) c.args.image.now.pixels c.loop-column.image.pixels c.draw_paint.new.image.pixels
          c.requires.row (omega (arith, c.loop-column-test.true, c.columns-from.ensures.within)) (rw (← left) first) (rw (← left) paint) c.draw_paint.ensures.within c.draw_paint.ensures.pixels c.loop-column.invariant.drawn;
    }

pub returns-clause-drawn : goal.returns-clause-drawn
returns-clause-drawn c =
    let left : c.unsigned_abs-left.result ≡ unsigned_abs c.args.area.x = search rules in
    let seen = span_within c.args.x c.args.row c.columns-from.result.0 c.columns-from.result.1 c.args.paints.now (area_of c.args.area) (rw (← left) c.columns-from.ensures.inside) in
    let end : c.loop-column.column ≡ c.columns-from.result.1 = omega (arith, c.loop-column-test.false, c.loop-column.auto.column-end, c.columns-from.ensures.order) in
    ends c.args.mode c.args.x c.args.row c.columns-from.result.0 c.columns-from.result.1 c.args.paints.now (area_of c.args.area) c.args.image.now.pixels c.loop-column.image.pixels seen c.requires.row c.columns-from.ensures.within
    (subst (λ n. Draws c.args.mode (Span c.args.x ((area_of c.args.area).y + c.args.row) c.args.paints.now) (area_of c.args.area) 0 (c.args.row * c.args.area.w + n) c.args.image.now.pixels c.loop-column.image.pixels) end c.loop-column.invariant.drawn)
