use Rattle.std.proofs.lemmas.Result.{err_from_is_err_and}
use Rattle.icet_base.proofs.GrowingBytes.{puts_then, puts_failed}
use Rattle.icet_cli.proofs.notes.put_number.Goals as goal

pub returns-in_err-put_number : goal.returns-in_err-put_number
returns-in_err-put_number g c =
    let p = err_from_is_err_and c.from_residual.result c.from_residual.ensures.1 in
    rw (p.1, ← c.from.ensures) (puts_failed g.N.Sink.told _ _ p.0 _ _ c.in_err-put_number.ensures)

pub returns : goal.returns
returns g c = rw (← c.from.ensures) (puts_then g.N.Sink.told _ _ _ _ _ _ c.in_ok-put_number.ensures c.put_behind.ensures)
