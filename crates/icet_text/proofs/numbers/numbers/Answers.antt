use Rattle.std.proofs.Common.{sym, ◌≡◌, ◌∙◌, ◌<◌, [], arith, length, drop, ap}
use Rattle.std.specs.Option.{option_copied}
use Rattle.icet_text.specs.Words.{words_behind}
use Rattle.icet_text.proofs.Fields.{lead_whole, lead_longer, lead_misfit, some_words}
use Rattle.icet_text.proofs.numbers.numbers.Goals as goal

pub returns-in_err-values-clause-numbers : goal.returns-in_err-values-clause-numbers
returns-in_err-values-clause-numbers c = rw c.from_residual.ensures (sym (lead_misfit c.args.fields.now (words_behind (option_copied c.args.words)) (sym c.in_err-values.ensures.numbers)))

pub returns-in-None-clause-numbers : goal.returns-in-None-clause-numbers
returns-in-None-clause-numbers c =
    let none : drop (length c.args.fields.now) (words_behind (option_copied c.args.words)) ≡ [] = rw c.in-None.is at (sym c.in_ok-values.ensures.rest) in
    c.in_ok-values.ensures.numbers ∙ sym (lead_whole c.args.fields.now (words_behind (option_copied c.args.words)) none)

pub returns-in-Some-clause-numbers : goal.returns-in-Some-clause-numbers
returns-in-Some-clause-numbers c =
    let rest = rw c.in-Some.is at c.in_ok-values.ensures.rest in
    let more : 0 < length (drop (length c.args.fields.now) (words_behind (option_copied c.args.words))) = omega (arith, ap length rest, some_words c.in-Some.field-0.now) in
    sym (lead_longer c.args.fields.now (words_behind (option_copied c.args.words)) more)
