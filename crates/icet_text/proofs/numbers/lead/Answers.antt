use Rattle.std.proofs.Common.{sym, ◌≡◌, arith, rules, length}
use Rattle.std.specs.Option.{option_copied}
use Rattle.icet_text.specs.Words.{words_behind}
use Rattle.icet_text.proofs.Fields.{read_more, read_whole, numbers_within}
use Rattle.icet_text.proofs.numbers.lead.Goals as goal

pub loop-field-preserved : goal.loop-field-preserved
loop-field-preserved c =
    let g = rw c.in-Some.is at c.loop-field.invariant in
    let h = rw c.in-Some-number_at_sight.ensures.words at g in
    rw c.push.ensures.items (read_more c.args.fields.now (words_behind (option_copied c.args.words)) c.loop-field.field-index c.in-Some-number_at_sight.number c.loop-field.values.items _ _ _ (omega (arith, c.loop-field-test.true)) (search rules) h c.in-Some-number_at_sight.ensures.number)

pub returns-clause-numbers : goal.returns-clause-numbers
returns-clause-numbers c =
    let at : c.loop-field.field-index ≡ length c.args.fields.now = omega (arith, c.loop-field-test.false, c.loop-field.auto.field-index-end) in
    let h = rw at at c.loop-field.invariant in
    sym (read_whole c.args.fields.now (words_behind (option_copied c.args.words)) c.loop-field.values.items (words_behind (option_copied c.loop-field.rest)) h)

pub returns-clause-within : goal.returns-clause-within
returns-clause-within c =
    let at : c.loop-field.field-index ≡ length c.args.fields.now = omega (arith, c.loop-field-test.false, c.loop-field.auto.field-index-end) in
    let h = rw at at c.loop-field.invariant in
    numbers_within c.args.fields.now _ c.loop-field.values.items (read_whole c.args.fields.now (words_behind (option_copied c.args.words)) c.loop-field.values.items (words_behind (option_copied c.loop-field.rest)) h)
