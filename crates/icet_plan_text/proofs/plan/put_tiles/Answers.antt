use Rattle.std.proofs.Common.{◌<◌, ◌≤◌, length, sym, subst, arith, Ok}
use Rattle.std.specs.List.{flat_map, range_with_len}
use Rattle.std.proofs.lemmas.List.FromFn.{length-range_with_len}
use Rattle.std.proofs.lemmas.Result.{err_from_is_err_and}
use Rattle.icet_model.specs.declared.bracket.Bracket.TheVariants.{Empty}
use Rattle.icet_base.specs.PenText.{Puts}
use Rattle.icet_base.proofs.PutPieces.{numbers_more, numbers_failed}
use Rattle.icet_plan_text.specs.PlanTexts.{tile_text}
use Rattle.icet_plan_text.proofs.Places.{stands_at, take_whole}
use Rattle.icet_plan_text.proofs.plan.put_tiles.Goals as goal

pub returns-in_err-put_tile : goal.returns-in_err-put_tile
returns-in_err-put_tile g c =
    let p = err_from_is_err_and c.from_residual.result c.from_residual.ensures.1 in
    let brackets = c.args.plan.now.brackets in
    let within : c.loop-tile.tile < length brackets = omega (arith, c.loop-tile.auto.tile-end, c.loop-tile-test.true, c.tiles-tile-end.ensures, c.ranks-ranks.ensures.plan.formed.brackets) in
    let failed = rw (sym (stands_at brackets c.loop-tile.tile c.bracket.result.now Empty c.bracket.ensures)) at c.in_err-put_tile.ensures in
    rw p.1 (numbers_failed g.K.Sink.told _ _ _ p.0 (tile_text brackets) (length brackets) c.loop-tile.tile within c.loop-tile.invariant failed)

pub loop-tile-preserved : goal.loop-tile-preserved
loop-tile-preserved g c =
    let brackets = c.args.plan.now.brackets in
    let within : c.loop-tile.tile < length brackets = omega (arith, c.loop-tile.auto.tile-end, c.loop-tile-test.true, c.tiles-tile-end.ensures, c.ranks-ranks.ensures.plan.formed.brackets) in
    let more = rw (sym (stands_at brackets c.loop-tile.tile c.bracket.result.now Empty c.bracket.ensures)) at c.in_ok-put_tile.ensures in
    numbers_more g.K.Sink.told _ _ _ (tile_text brackets) (length brackets) c.loop-tile.tile within c.loop-tile.invariant more

pub returns : goal.returns
returns g c =
    let brackets = c.args.plan.now.brackets in
    let long = length-range_with_len 0 (length brackets) in
    let past : length (range_with_len 0 (length brackets)) ≤ c.loop-tile.tile = omega (arith, c.loop-tile.auto.tile-end, c.loop-tile-test.false, long, c.tiles-tile-end.ensures, c.ranks-ranks.ensures.plan.formed.brackets) in
    subst (λ ns. Puts g.K.Sink.told c.args.pen.now c.loop-tile.pen (Ok tt) (flat_map (tile_text brackets) ns)) (take_whole (range_with_len 0 (length brackets)) c.loop-tile.tile past) c.loop-tile.invariant
