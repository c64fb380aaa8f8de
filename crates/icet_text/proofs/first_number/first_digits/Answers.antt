use Rattle.std.proofs.Common.{◌≤◌, arith}
use Rattle.std.proofs.lemmas.List.{take-take, length-take}
use Rattle.icet_text.proofs.first_number.first_digits.Goals as goal

pub returns-then-bytes-ge-MOST_DIGITS-clause-digits : goal.returns-then-bytes-ge-MOST_DIGITS-clause-digits
returns-then-bytes-ge-MOST_DIGITS-clause-digits c =
    let few : c.digits_in.result.1 ≤ 9 = omega (arith, c.digits_in.ensures.within, length-take 9 c.args.bytes.now) in
    rw (← take-take c.digits_in.result.1 9 c.args.bytes.now few) c.digits_in.ensures.digits

pub returns-then-bytes-ge-MOST_DIGITS-clause-value : goal.returns-then-bytes-ge-MOST_DIGITS-clause-value
returns-then-bytes-ge-MOST_DIGITS-clause-value c =
    let few : c.digits_in.result.1 ≤ 9 = omega (arith, c.digits_in.ensures.within, length-take 9 c.args.bytes.now) in
    rw (← take-take c.digits_in.result.1 9 c.args.bytes.now few) c.digits_in.ensures.value
