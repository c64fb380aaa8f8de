use Rattle.std.proofs.lemmas.Result.{err_from_is_err_and}
use Rattle.icet_base.proofs.GrowingBytes.{puts_failed}
use Rattle.icet_pam.proofs.picture.write_fields.Goals as goal

pub returns-in_err-put_number : goal.returns-in_err-put_number
returns-in_err-put_number g c =
    let p = err_from_is_err_and c.from_residual.result c.from_residual.ensures.1 in
    rw p.1 (puts_failed g.K.Sink.told _ _ p.0 _ _ c.in_err-put_number.ensures)
