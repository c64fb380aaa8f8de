use Rattle.std.proofs.Common.{◌++◌, codes}
use Rattle.std.proofs.lemmas.Result.{err_from_is_err_and}
use Rattle.icet_base.proofs.GrowingBytes.{puts_failed}
use Rattle.icet_summary.specs.Summaries.{spaced}
use Rattle.icet_summary.proofs.text.put_tally.Goals as goal

pub returns-in_err-put_drawn : goal.returns-in_err-put_drawn
returns-in_err-put_drawn g c =
    let p = err_from_is_err_and c.from_residual.result c.from_residual.ensures.1 in
    let all = c.args.all in
    rw p.1 (puts_failed g.K.Sink.told _ _ p.0 (spaced all.blank ++ (spaced all.red ++ spaced all.green)) ((spaced all.blue ++ spaced all.alpha) ++ codes "\n") c.in_err-put_drawn.ensures)
