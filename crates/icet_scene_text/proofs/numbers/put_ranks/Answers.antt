use Rattle.std.proofs.Common.{sym}
use Rattle.std.proofs.lemmas.Result.{err_from_is_err_and}
use Rattle.icet_scene_model.specs.Printed.{natural, spaced}
use Rattle.icet_scene_text.proofs.PieceLoops.{mapped_end, mapped_failed}
use Rattle.icet_scene_text.proofs.numbers.put_ranks.Goals as goal

pub returns-in_err-put_number : goal.returns-in_err-put_number
returns-in_err-put_number g c =
    let p = err_from_is_err_and c.from_residual.result c.from_residual.ensures.1 in
    let failed = rw c.rank_number.ensures at c.in_err-put_number.ensures in
    rw p.1 (mapped_failed g.K.Sink.told spaced natural _ _ _ p.0 c.args.ranks.now c.loop-rank.rank-index c.rank-item.result c.loop-rank-test.true (sym c.rank-item.is) c.loop-rank.invariant failed)

pub returns : goal.returns
returns g c = mapped_end g.K.Sink.told spaced natural _ _ c.args.ranks.now c.loop-rank.rank-index c.loop-rank-test.false c.loop-rank.invariant
