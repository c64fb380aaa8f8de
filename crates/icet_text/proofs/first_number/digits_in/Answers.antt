use Rattle.std.proofs.Common.{◌≡◌, ◌<◌, ◌∙◌, arith, length, get_or, refl, true}
use Rattle.std.proofs.lemmas.Bool.Decides.{nat_tests}
use Rattle.std.proofs.lemmas.List.Folds.{list_all_more}
use Rattle.icet_text.specs.Numerals.{is_digit}
use Rattle.icet_text.proofs.FirstWords.{together}
use Rattle.icet_text.proofs.Values.{value_more, tens_few, tens_more}
use Rattle.icet_text.proofs.first_number.digits_in.Goals as goal

pub loop-byte-init : goal.loop-byte-init
loop-byte-init c = (refl, refl, refl, omega arith)

pub overflow_mul-value : goal.overflow_mul-value
overflow_mul-value c =
    let few : c.loop-byte.count < 9 = omega (arith, c.loop-byte.invariant.0, c.loop-byte-test.true, c.requires) in
    omega (arith, tens_few c.loop-byte.count few, c.loop-byte.invariant.3)

pub overflow_add-value : goal.overflow_add-value
overflow_add-value c =
    let few : c.loop-byte.count < 9 = omega (arith, c.loop-byte.invariant.0, c.loop-byte-test.true, c.requires) in
    omega (arith, tens_few c.loop-byte.count few, c.loop-byte.invariant.3, c.if-digit-gt9.false)

pub loop-byte-preserved : goal.loop-byte-preserved
loop-byte-preserved c =
    let e = c.loop-byte.invariant.0 in
    let v = rw e at c.loop-byte.invariant.1 in
    let a = rw e at c.loop-byte.invariant.2 in
    let l : c.loop-byte.byte-index < length c.args.bytes.now = omega (arith, c.loop-byte-test.true) in
    let m = value_more c.args.bytes.now c.loop-byte.byte-index l in
    let d = list_all_more is_digit c.args.bytes.now c.loop-byte.byte-index 0 l in
    let digit : is_digit (get_or c.args.bytes.now c.loop-byte.byte-index 0) ≡ true = grind (arith, nat_tests, c.if-digit-gt9.false) in
    let t = tens_more c.loop-byte.byte-index in
    let s = rw e at c.loop-byte.invariant.3 in
    rw e (refl, omega (arith, m, v, c.if-digit-gt9.false), d ∙ together _ _ a digit, omega (arith, t, s, c.if-digit-gt9.false))
