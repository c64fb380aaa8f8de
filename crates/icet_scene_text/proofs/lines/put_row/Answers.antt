use Rattle.std.specs.List.{flat_map}
use Rattle.std.proofs.lemmas.Result.{err_from_is_err_and}
use Rattle.icet_scene_model.specs.Printed.{paint_numbers}
use Rattle.icet_scene_text.proofs.NumberPieces.{numbers_failed}
use Rattle.icet_scene_text.proofs.lines.put_row.Goals as goal

pub returns-in_err-put_numbers : goal.returns-in_err-put_numbers
returns-in_err-put_numbers g c =
    let p = err_from_is_err_and c.from_residual.result c.from_residual.ensures.1 in
    rw p.1 (numbers_failed g.K.Sink.told _ _ p.0 c.args.stand (flat_map paint_numbers c.args.paints.now) c.in_err-put_numbers.ensures)
