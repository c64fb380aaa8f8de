use Rattle.std.proofs.Common.{◌++◌, codes, Ok, Err}
use Rattle.std.proofs.lemmas.Result.{err_from_is_err_and}
use Rattle.std.specs.List.{flat_map}
use Rattle.icet_base.proofs.GrowingBytes.{puts_failed, puts_then}
use Rattle.icet_scene_model.specs.Printed.{spaced}
use Rattle.icet_scene_text.proofs.lines.put_line.Goals as goal

pub returns-in_err-put_numbers : goal.returns-in_err-put_numbers
returns-in_err-put_numbers g c =
    let p = err_from_is_err_and c.from_residual-in_err-put_numbers.result c.from_residual-in_err-put_numbers.ensures.1 in
    rw p.1 (puts_failed g.K.Sink.told _ _ p.0 ((c.args.keyword.now) ++ (flat_map spaced c.args.numbers.now)) (codes "\n") (puts_then g.K.Sink.told _ _ _ (Err p.0) (c.args.keyword.now) (flat_map spaced c.args.numbers.now) c.in_ok-put.ensures c.in_err-put_numbers.ensures))

pub returns : goal.returns
returns g c = puts_then g.K.Sink.told _ _ _ _ ((c.args.keyword.now) ++ (flat_map spaced c.args.numbers.now)) (codes "\n") (puts_then g.K.Sink.told _ _ _ (Ok tt) (c.args.keyword.now) (flat_map spaced c.args.numbers.now) c.in_ok-put.ensures c.in_ok-put_numbers.ensures) c.put-2.ensures
