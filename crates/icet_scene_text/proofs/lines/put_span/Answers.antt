use Rattle.std.proofs.Common.{◌∷◌, [], ◌++◌, codes, Ok, Err}
use Rattle.std.proofs.lemmas.Result.{err_from_is_err_and}
use Rattle.std.specs.List.{flat_map}
use Rattle.icet_base.proofs.GrowingBytes.{puts_failed, puts_then}
use Rattle.icet_scene_model.specs.Printed.{natural, paint_numbers, spaced}
use Rattle.icet_scene_text.proofs.lines.put_span.Goals as goal

pub returns-in_err-put_row : goal.returns-in_err-put_row
returns-in_err-put_row g c =
    let p = err_from_is_err_and c.from_residual-in_err-put_row.result c.from_residual-in_err-put_row.ensures.1 in
    let row = flat_map spaced ((natural c.args.rank ∷ natural c.args.x ∷ natural c.args.y ∷ []) ++ flat_map paint_numbers c.args.paints.now) in
    let failed = rw (c.natural.ensures, c.natural-2.ensures, c.natural-3.ensures) at c.in_err-put_row.ensures in
    rw p.1 (puts_failed g.K.Sink.told _ _ p.0 (codes "span" ++ row) (codes "\n") (puts_then g.K.Sink.told _ _ _ (Err p.0) (codes "span") row c.in_ok-put.ensures failed))

pub returns : goal.returns
returns g c =
    let row = flat_map spaced ((natural c.args.rank ∷ natural c.args.x ∷ natural c.args.y ∷ []) ++ flat_map paint_numbers c.args.paints.now) in
    let done = rw (c.natural.ensures, c.natural-2.ensures, c.natural-3.ensures) at c.in_ok-put_row.ensures in
    puts_then g.K.Sink.told _ _ _ _ (codes "span" ++ row) (codes "\n") (puts_then g.K.Sink.told _ _ _ (Ok tt) (codes "span") row c.in_ok-put.ensures done) c.put-2.ensures
