use Rattle.std.proofs.Common.{sym}
use Rattle.std.specs.Option.{option_copied}
use Rattle.icet_text.specs.Words.{words_behind}
use Rattle.icet_text.proofs.Counts.{counts_none}
use Rattle.icet_text.proofs.words.count_numerals.Goals as goal

pub returns-in_err-rest : goal.returns-in_err-rest
returns-in_err-rest c = rw c.from_residual.ensures (sym (counts_none (words_behind (option_copied c.args.words)) (option_copied c.args.words) c.loop-rest.count c.in-Some.line.now (rw c.in-Some.is at c.loop-rest.invariant) (sym c.in_err-rest.ensures.numeral)))
