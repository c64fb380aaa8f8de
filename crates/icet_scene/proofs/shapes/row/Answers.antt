use Rattle.std.proofs.Common.{◌≡◌, ◌<◌, sym, rules, arith}
use Rattle.std.specs.Option.{option_copied}
use Rattle.icet_text.specs.Lines.{words_of}
use Rattle.icet_text.specs.Words.{words_behind}
use Rattle.icet_text.proofs.Fields.{some_words}
use Rattle.std.proofs.lemmas.List.Elements.{All-push}
use Rattle.icet_scene_model.specs.Lawful.{IsPaint}
use Rattle.icet_scene.proofs.Rows.{row_misfit, row_full, row_bad, row_more}
use Rattle.icet_scene.proofs.shapes.row.Goals as goal

pub returns-in-None-clause-fault : goal.returns-in-None-clause-fault
returns-in-None-clause-fault c =
    let h = rw c.in-Some.is at c.loop-rest.invariant.0 in
    let e = rw c.paint_fields-fields.ensures at c.in-None.ensures.numbers in
    row_misfit c.args.most c.args.room (words_behind (option_copied c.args.words)) c.loop-rest.left c.loop-rest.is_premultiplied c.loop-rest.paints.items (words_of c.in-Some.line.now) h (some_words c.in-Some.line.now) (sym e)

pub returns-then-left-eq0-clause-fault : goal.returns-then-left-eq0-clause-fault
returns-then-left-eq0-clause-fault c =
    let h = rw c.in-Some.is at c.loop-rest.invariant.0 in
    let z : c.loop-rest.left ≡ 0 = omega (arith, c.if-left-eq0.true) in
    let g = rw z at h in
    let e = rw c.paint_fields-fields.ensures at c.in-Some-lead.ensures.numbers in
    row_full c.args.most c.args.room (words_behind (option_copied c.args.words)) c.loop-rest.is_premultiplied c.loop-rest.paints.items (words_of c.in-Some.line.now) c.in-Some-lead.ns.items g (some_words c.in-Some.line.now) (sym e)

pub loop-rest-preserved-in-None-paint : goal.loop-rest-preserved-in-None-paint
loop-rest-preserved-in-None-paint c =
    let h = rw c.in-Some.is at c.loop-rest.invariant.0 in
    let some : 0 < c.loop-rest.left = omega (arith, c.if-left-eq0.false) in
    let e = rw c.paint_fields-fields.ensures at c.in-Some-lead.ensures.numbers in
    let b = rw c.paint_fields-fields.ensures at c.in-Some-lead.ensures.rest in
    let x = rw c.as_slice.ensures.value at c.in-None-paint.ensures.exact in
    let kept = c.loop-rest.invariant.1 in
    (row_bad c.args.most c.args.room (words_behind (option_copied c.args.words)) c.loop-rest.left c.loop-rest.is_premultiplied c.loop-rest.paints.items (words_of c.in-Some.line.now) (words_behind (option_copied c.in-Some-lead.behind)) c.in-Some-lead.ns.items h (some_words c.in-Some.line.now) some (sym e) b (search (rules, x)), kept)

pub loop-rest-preserved : goal.loop-rest-preserved
loop-rest-preserved c =
    let h = rw c.in-Some.is at c.loop-rest.invariant.0 in
    let some : 0 < c.loop-rest.left = omega (arith, c.if-left-eq0.false) in
    let e = rw c.paint_fields-fields.ensures at c.in-Some-lead.ensures.numbers in
    let b = rw c.paint_fields-fields.ensures at c.in-Some-lead.ensures.rest in
    let x = rw c.as_slice.ensures.value at c.in-Some-paint.ensures.exact in
    let p = rw c.as_slice.ensures.value at c.in-Some-paint.ensures.paint in
    let kept = All-push (IsPaint c.args.most) c.loop-rest.paints.items c.in-Some-paint.paint c.loop-rest.invariant.1 c.in-Some-paint.ensures.lawful in
    rw c.in_ok-keep-in-Some-paint.ensures (row_more c.args.most c.args.room (words_behind (option_copied c.args.words)) c.loop-rest.left c.loop-rest.is_premultiplied c.loop-rest.paints.items (words_of c.in-Some.line.now) (words_behind (option_copied c.in-Some-lead.behind)) c.in-Some-lead.ns.items c.in-Some-paint.paint h (some_words c.in-Some.line.now) some (sym e) b (search (rules, x)) p, kept)
