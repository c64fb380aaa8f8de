use Rattle.std.proofs.Common.{◌+◌, arith, sym}
use Rattle.icet_text.proofs.Values.{value_more, value_exceeds}
use Rattle.icet_text.proofs.numeral.value_up_to.Goals as goal

pub returns-then-next-from : goal.returns-then-next-from
returns-then-next-from c =
    let m = value_more c.args.digits.now c.loop-digit.digit-index (omega (arith, c.loop-digit-test.true)) in
    sym (value_exceeds c.args.digits.now (c.loop-digit.digit-index + 1) c.args.most (omega (arith, m)))

pub loop-digit-preserved : goal.loop-digit-preserved
loop-digit-preserved c =
    let m = value_more c.args.digits.now c.loop-digit.digit-index (omega (arith, c.loop-digit-test.true)) in
    (omega (arith, m), omega arith)
