use Rattle.std.proofs.Common.{◌<◌, ◌≤◌, ◌∙◌, sym, ap, arith, length, length-drop, lit<, ◌-◌, Some}
use Rattle.icet_text.specs.Numbers.{size_at}
use Rattle.std.specs.Option.{option_copied}
use Rattle.icet_text.specs.Words.{words_behind}
use Rattle.icet_model.specs.declared.limits.TheConstants.{MAX_SIDE}
use Rattle.icet_scene_model.specs.SceneLines.{paints_in}
use Rattle.icet_scene.proofs.ShapeLines.{span_out, span_spelled, span_fault, span_says, fault_of_row, some_paints}
use Rattle.icet_scene.proofs.shapes.span_line.Goals as goal

pub returns-in-None-clause-line : goal.returns-in-None-clause-line
returns-in-None-clause-line c = λ before r m.
    let numbers = rw c.stand_fields.ensures at c.in-None.ensures.numbers in
    span_out before c.args.ranks c.args.most (words_behind (option_copied c.args.words)) numbers r

pub span-requires-clause-some : goal.span-requires-clause-some
span-requires-clause-some c =
    let rest = rw c.stand_fields.ensures at c.in-Some.ensures.rest in
    let some : 0 < length (words_behind (option_copied c.in-Some.rest)) = omega (arith, ap length rest, length-drop 3 (words_behind (option_copied c.args.words)), c.requires.some) in
    some_paints c.args.most (words_behind (option_copied c.in-Some.rest)) c.in-Ok.paints.items some c.in-Ok.ensures.paints

pub returns-in-Err-clause-line : goal.returns-in-Err-clause-line
returns-in-Err-clause-line c = λ before r m.
    let words = words_behind (option_copied c.args.words) in
    let ns = c.in-Some.ns.items in
    let read = paints_in c.args.most (words_behind (option_copied c.in-Some.rest)) in
    let numbers = rw c.stand_fields.ensures at c.in-Some.ensures.numbers in
    let rest = rw c.stand_fields.ensures at c.in-Some.ensures.rest in
    let inside = rw c.stand_fields.ensures at c.in-Some.ensures.within in
    let small : size_at ns 1 ≤ MAX_SIDE = omega (arith, (inside 1 (lit< tt)).greatest) in
    let fault = rw (c.size.ensures, c.as_slice-ns.ensures.value) at c.in-Err.ensures.fault in
    fault_of_row c.in-Err.fault (MAX_SIDE - size_at ns 1) read _ fault (λ f e. span_spelled before c.args.ranks c.args.most words ns read numbers (ap (paints_in c.args.most) (sym rest)) r m ∙ span_fault before ns read f small e)

pub returns-in-Ok-clause-line : goal.returns-in-Ok-clause-line
returns-in-Ok-clause-line c = λ before r m.
    let words = words_behind (option_copied c.args.words) in
    let ns = c.in-Some.ns.items in
    let paints = c.in-Ok.paints.items in
    let numbers = rw c.stand_fields.ensures at c.in-Some.ensures.numbers in
    let rest = rw c.stand_fields.ensures at c.in-Some.ensures.rest in
    let inside = rw c.stand_fields.ensures at c.in-Some.ensures.within in
    let small : size_at ns 1 ≤ MAX_SIDE = omega (arith, (inside 1 (lit< tt)).greatest) in
    let well = rw (c.size.ensures, c.as_slice-ns.ensures.value, c.in-Ok.ensures.paints) at c.in-Ok.ensures.well in
    rw (c.size-in-Ok.ensures, c.span.ensures.drawing, c.as_slice-ns.ensures.value) (span_spelled before c.args.ranks c.args.most words ns (Some paints) numbers (ap (paints_in c.args.most) (sym rest) ∙ c.in-Ok.ensures.paints) r m ∙ span_says before ns paints small well)
