use Rattle.std.proofs.Common.{sym, subst, ◌≡◌, arith, rules, length, false}
use Rattle.std.specs.Option.{option_copied}
use Rattle.icet_text.specs.Words.{words_behind}
use Rattle.icet_text.proofs.FirstWords.{first_stands}
use Rattle.icet_text.proofs.Fields.{HasRead, read_short, read_misfit, read_more, read_whole, numbers_within}
use Rattle.icet_text.proofs.numbers.lead_with_care.Goals as goal

pub returns-in_err-rest-clause-numbers : goal.returns-in_err-rest-clause-numbers
returns-in_err-rest-clause-numbers c =
    let h = rw c.in_err-rest.was at c.loop-field.invariant in
    rw c.from_residual.ensures (sym (read_short c.args.fields.now (words_behind (option_copied c.args.words)) c.loop-field.field-index c.loop-field.values.items (record { is_signed = false; least = 0; greatest = 0 }) (omega (arith, c.loop-field-test.true)) h))

pub returns-in_err-number-clause-numbers : goal.returns-in_err-number-clause-numbers
returns-in_err-number-clause-numbers c =
    let g = rw c.in_ok-rest.was at c.loop-field.invariant in
    let h = subst (λ ws. HasRead c.args.fields.now (words_behind (option_copied c.args.words)) c.loop-field.field-index c.loop-field.values.items ws) (first_stands c.in_ok-rest.field-0.now) g in
    rw c.from_residual-in_err-number.ensures (sym (read_misfit c.args.fields.now (words_behind (option_copied c.args.words)) c.loop-field.field-index c.loop-field.values.items _ _ _ (omega (arith, c.loop-field-test.true)) (search rules) h (sym c.in_err-number.ensures.number)))

pub loop-field-preserved : goal.loop-field-preserved
loop-field-preserved c =
    let g = rw c.in_ok-rest.was at c.loop-field.invariant in
    let h = rw c.in_ok-number.ensures.words at g in
    rw c.push.ensures.items (read_more c.args.fields.now (words_behind (option_copied c.args.words)) c.loop-field.field-index c.in_ok-number.number c.loop-field.values.items _ _ _ (omega (arith, c.loop-field-test.true)) (search rules) h (sym c.in_ok-number.ensures.number))

pub returns-clause-numbers : goal.returns-clause-numbers
returns-clause-numbers c =
    let at : c.loop-field.field-index ≡ length c.args.fields.now = omega (arith, c.loop-field-test.false, c.loop-field.auto.field-index-end) in
    let h = rw at at c.loop-field.invariant in
    sym (read_whole c.args.fields.now (words_behind (option_copied c.args.words)) c.loop-field.values.items (words_behind (option_copied c.loop-field.rest)) h)

pub returns-clause-within : goal.returns-clause-within
returns-clause-within c =
    let at : c.loop-field.field-index ≡ length c.args.fields.now = omega (arith, c.loop-field-test.false, c.loop-field.auto.field-index-end) in
    let h = rw at at c.loop-field.invariant in
    numbers_within c.args.fields.now _ c.loop-field.values.items (read_whole c.args.fields.now (words_behind (option_copied c.args.words)) c.loop-field.values.items (words_behind (option_copied c.loop-field.rest)) h)
