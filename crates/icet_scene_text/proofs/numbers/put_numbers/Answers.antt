use Rattle.std.proofs.lemmas.Result.{err_from_is_err_and}
use Rattle.icet_base.proofs.PutPieces.{pieces_failed}
use Rattle.icet_scene_model.specs.Printed.{spaced}
use Rattle.icet_scene_text.proofs.PieceLoops.{again}
use Rattle.icet_scene_text.proofs.numbers.put_numbers.Goals as goal

pub returns-in_err-put_number : goal.returns-in_err-put_number
returns-in_err-put_number g c =
    let p = err_from_is_err_and c.from_residual.result c.from_residual.ensures.1 in
    rw p.1 (pieces_failed g.K.Sink.told _ _ _ p.0 spaced c.args.numbers.now c.loop-number.number-index _ c.loop-number-test.true (again c.args.numbers.now c.loop-number.number-index _) c.loop-number.invariant c.in_err-put_number.ensures)
