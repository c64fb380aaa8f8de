use Rattle.std.proofs.Common.{◌≡◌, ◌<◌, ◌≤◌, ◌∙◌, ap, length, get_or, sym, subst, arith, Ok}
use Rattle.std.specs.List.{flat_map, range_with_len}
use Rattle.std.proofs.lemmas.List.{take_all}
use Rattle.std.proofs.lemmas.List.FromFn.{length-range_with_len}
use Rattle.std.proofs.lemmas.Result.{err_from_is_err_and}
use Rattle.icet_model.proofs.Lists.{any_default}
use Rattle.icet_base.specs.PenText.{Puts}
use Rattle.icet_base.proofs.PutPieces.{numbers_more, numbers_failed}
use Rattle.icet_summary.specs.Summaries.{finish, line_at, no_picture, tile_line}
use Rattle.icet_summary.proofs.text.put_tiles.Goals as goal

pub returns-in_err-put_tile : goal.returns-in_err-put_tile
returns-in_err-put_tile g c =
    let p = err_from_is_err_and c.from_residual.result c.from_residual.ensures.1 in
    let f = finish c.args.wide c.args.mode c.args.background in
    let t = c.loop-t.t in
    let pictures = c.args.pictures.now in
    let within : t < length pictures = omega (arith, c.loop-t.auto.t-end, c.loop-t-test.true) in
    let at : get_or pictures t no_picture ≡ c.index-pictures-t.result = any_default pictures t no_picture c.index-pictures-t.result within ∙ sym c.index-pictures-t.is in
    let failed = rw (sym (ap (tile_line f t) at)) at c.in_err-put_tile.ensures in
    rw p.1 (numbers_failed g.K.Sink.told _ _ _ p.0 (line_at f pictures) (length pictures) t within c.loop-t.invariant failed)

pub loop-t-preserved : goal.loop-t-preserved
loop-t-preserved g c =
    let f = finish c.args.wide c.args.mode c.args.background in
    let t = c.loop-t.t in
    let pictures = c.args.pictures.now in
    let within : t < length pictures = omega (arith, c.loop-t.auto.t-end, c.loop-t-test.true) in
    let at : get_or pictures t no_picture ≡ c.index-pictures-t.result = any_default pictures t no_picture c.index-pictures-t.result within ∙ sym c.index-pictures-t.is in
    let more = rw (sym (ap (tile_line f t) at)) at c.in_ok-put_tile.ensures in
    numbers_more g.K.Sink.told _ _ _ (line_at f pictures) (length pictures) t within c.loop-t.invariant more

pub returns : goal.returns
returns g c =
    let f = finish c.args.wide c.args.mode c.args.background in
    let pictures = c.args.pictures.now in
    let e : c.loop-t.t ≡ length pictures = omega (arith, c.loop-t.auto.t-end, c.loop-t-test.false) in
    let whole = length-range_with_len 0 (length pictures) in
    subst (λ ns. Puts g.K.Sink.told c.args.pen.now c.loop-t.pen (Ok tt) (flat_map (line_at f pictures) ns)) (take_all c.loop-t.t (range_with_len 0 (length pictures)) (omega (arith, e, whole))) c.loop-t.invariant
