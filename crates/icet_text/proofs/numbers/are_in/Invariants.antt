use Rattle.std.proofs.Common.{◌≡◌}
use Rattle.std.specs.Option.{option_copied, is_some}
use Rattle.icet_text.specs.Words.{words_behind}
use Rattle.icet_text.specs.Numbers.{sizes_in}
use Rattle.icet_text.proofs.Counts.{bytes_left}
use Rattle.icet_text.proofs.numbers.are_in.Given as goal

abbrev pub invariant-loop-rest : goal.invariant-loop-rest
invariant-loop-rest l = is_some (sizes_in l.field (words_behind (option_copied l.fn.words))) ≡ is_some (sizes_in l.field (words_behind (option_copied l.rest)))

abbrev pub decreases-loop-rest : goal.decreases-loop-rest
decreases-loop-rest l = bytes_left (option_copied l.rest)
