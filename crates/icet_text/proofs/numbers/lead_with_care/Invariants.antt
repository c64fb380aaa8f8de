use Rattle.std.specs.Option.{option_copied}
use Rattle.icet_text.specs.Words.{words_behind}
use Rattle.icet_text.proofs.Fields.{HasRead}
use Rattle.icet_text.proofs.numbers.lead_with_care.Given as goal

abbrev pub invariant-loop-field : goal.invariant-loop-field
invariant-loop-field l = HasRead l.fields (words_behind (option_copied l.fn.words)) l.field-index l.values.items (words_behind (option_copied l.rest))
