use Rattle.std.proofs.Common.{◌≡◌, ◌<◌, ◌+◌, sym, arith, length, drop, length-drop}
use Rattle.std.proofs.lemmas.List.{take_rest, drop_all, drop-drop}
use Rattle.icet_text.proofs.Splits.{lines_none, lines_some}
use Rattle.icet_text.proofs.lines.line_at.Goals as goal

pub returns-in-None-clause-lines : goal.returns-in-None-clause-lines
returns-in-None-clause-lines c =
    let rest = take_rest c.args.bytes.now c.args.at in
    let some : 0 < length (drop c.args.at c.args.bytes.now) = omega (arith, length-drop c.args.at c.args.bytes.now, c.requires) in
    let none = rw rest at c.in-None.ensures.first in
    rw (rest, drop_all (length c.args.bytes.now) c.args.bytes.now (omega arith)) (lines_none (drop c.args.at c.args.bytes.now) some (sym none))

pub returns-in-Some-clause-lines : goal.returns-in-Some-clause-lines
returns-in-Some-clause-lines c =
    let rest = take_rest c.args.bytes.now c.args.at in
    let first = rw rest at c.in-Some.ensures.first in
    let e : c.args.at + (c.in-Some.end + 1) ≡ c.args.at + c.in-Some.end + 1 = omega arith in
    rw (rest, ← e, ← drop-drop (c.in-Some.end + 1) c.args.at c.args.bytes.now) (lines_some (drop c.args.at c.args.bytes.now) c.in-Some.end (sym first))
