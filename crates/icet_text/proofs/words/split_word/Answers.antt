use Rattle.std.proofs.Common.{sym, ◌+◌}
use Rattle.std.proofs.lemmas.List.{take_rest}
use Rattle.icet_text.proofs.Splits.{words_none, words_some}
use Rattle.icet_text.proofs.words.split_word.Goals as goal

pub returns-in-None-clause-words : goal.returns-in-None-clause-words
returns-in-None-clause-words c = words_none c.args.line.now (sym c.in-None.ensures.first)

pub returns-in-Some-clause-words : goal.returns-in-Some-clause-words
returns-in-Some-clause-words c = rw (take_rest c.args.line.now (c.in-Some.at + 1)) (words_some c.args.line.now c.in-Some.at (sym c.in-Some.ensures.first))
