use Rattle.std.proofs.Common.{sym, subst, ap, ◌∙◌, Ok}
use Rattle.std.specs.List.{flat_map}
use Rattle.std.proofs.lemmas.List.{take_all}
use Rattle.std.proofs.lemmas.Result.{err_from_is_err_and}
use Rattle.icet_base.specs.PenText.{Puts}
use Rattle.icet_base.proofs.PutPieces.{pieces_failed, pieces_more}
use Rattle.icet_model.specs.Pixel.{FragmentView}
use Rattle.icet_scene_model.specs.Printed.{paint_numbers, spaced}
use Rattle.icet_scene_text.proofs.NumberPieces.{flat_map_twice}
use Rattle.icet_scene_text.proofs.numbers.put_paints.Goals as goal

pub returns-in_err-put_numbers : goal.returns-in_err-put_numbers
returns-in_err-put_numbers g c =
    let p = err_from_is_err_and c.from_residual.result c.from_residual.ensures.1 in
    let failed = rw c.paint_numbers.ensures at c.in_err-put_numbers.ensures in
    rw (p.1, flat_map_twice spaced paint_numbers c.args.paints.now) (pieces_failed g.K.Sink.told _ _ _ p.0 (λ (paint : FragmentView). flat_map spaced (paint_numbers paint)) c.args.paints.now c.loop-paint.paint-index c.paint-item.result c.loop-paint-test.true (sym c.paint-item.is) c.loop-paint.invariant failed)

pub loop-paint-preserved : goal.loop-paint-preserved
loop-paint-preserved g c =
    let more = rw c.paint_numbers.ensures at c.in_ok-put_numbers.ensures in
    pieces_more g.K.Sink.told _ _ _ (λ (paint : FragmentView). flat_map spaced (paint_numbers paint)) c.args.paints.now c.loop-paint.paint-index c.paint-item.result c.loop-paint-test.true (sym c.paint-item.is) c.loop-paint.invariant more

pub returns : goal.returns
returns g c = subst (Puts g.K.Sink.told c.args.pen.now c.loop-paint.pen (Ok tt)) (ap (flat_map (λ (paint : FragmentView). flat_map spaced (paint_numbers paint))) (take_all c.loop-paint.paint-index c.args.paints.now c.loop-paint-test.false) ∙ sym (flat_map_twice spaced paint_numbers c.args.paints.now)) c.loop-paint.invariant
