use Rattle.std.proofs.Common.{rules}
use Rattle.std.specs.Option.{option_copied}
use Rattle.icet_text.specs.Words.{words_behind}
use Rattle.icet_scene.proofs.ShapeLines.{tri_out, tri_refused, tri_says}
use Rattle.icet_scene.proofs.TriForms.{tri_form}
use Rattle.icet_scene.proofs.shapes.tri_line.Goals as goal

pub returns-in-None-clause-line : goal.returns-in-None-clause-line
returns-in-None-clause-line c = λ before r m.
    let numbers = rw c.tri_fields.ensures at c.in-None.ensures.numbers in
    tri_out before c.args.ranks c.args.most (words_behind (option_copied c.args.words)) numbers r m

pub returns-in-None-corners-clause-line : goal.returns-in-None-corners-clause-line
returns-in-None-corners-clause-line c = λ before r m.
    let numbers = rw c.tri_fields.ensures at c.in-Some.ensures.numbers in
    let exact = rw c.as_slice-ns.ensures.value at c.in-None-corners.ensures.exact in
    tri_refused before c.args.ranks c.args.most (words_behind (option_copied c.args.words)) c.in-Some.ns.items numbers (search (rules, exact)) r m

pub returns-in-Some-corners-clause-line : goal.returns-in-Some-corners-clause-line
returns-in-Some-corners-clause-line c = λ before r m.
    let numbers = rw c.tri_fields.ensures at c.in-Some.ensures.numbers in
    let exact = rw c.as_slice-ns.ensures.value at c.in-Some-corners.ensures.exact in
    let corners = rw c.as_slice-ns.ensures.value at c.in-Some-corners.ensures.corners in
    rw (c.size.ensures, c.as_slice-ns.ensures.value) (tri_says before c.args.ranks c.args.most (words_behind (option_copied c.args.words)) c.in-Some.ns.items _ numbers (search (rules, exact)) corners r m)

pub returns-in-Some-corners-clause-form : goal.returns-in-Some-corners-clause-form
returns-in-Some-corners-clause-form c =
    let numbers = rw c.tri_fields.ensures at c.in-Some.ensures.numbers in
    tri_form c.args.ranks c.args.most (words_behind (option_copied c.args.words)) c.in-Some.ns.items numbers
