use Rattle.std.specs.Option.{option_copied}
use Rattle.icet_text.specs.Words.{words_behind}
use Rattle.icet_text.proofs.Counts.{bytes_left}
use Rattle.icet_text.proofs.Sizes.{HasSizes}
use Rattle.icet_text.proofs.numbers.sizes.Given as goal

abbrev pub invariant-loop-rest : goal.invariant-loop-rest
invariant-loop-rest l = HasSizes l.field (words_behind (option_copied l.fn.words)) l.all.items (words_behind (option_copied l.rest))

abbrev pub decreases-loop-rest : goal.decreases-loop-rest
decreases-loop-rest l = bytes_left (option_copied l.rest)
