use Rattle.std.specs.Option.{option_copied}
use Rattle.icet_text.specs.Words.{words_behind}
use Rattle.icet_text.proofs.Counts.{HasCounted, bytes_left}
use Rattle.icet_text.proofs.words.count_numerals.Given as goal

abbrev pub invariant-loop-rest : goal.invariant-loop-rest
invariant-loop-rest l = HasCounted (words_behind (option_copied l.fn.words)) (option_copied l.fn.words) l.count (option_copied l.rest)

abbrev pub decreases-loop-rest : goal.decreases-loop-rest
decreases-loop-rest l = bytes_left (option_copied l.rest)
