use Rattle.std.proofs.Common.{◌≡◌, ◌≤◌, take}
use Rattle.icet_text.specs.Numerals.{value_from}
use Rattle.icet_text.proofs.numeral.value_up_to.Given as goal

abbrev pub invariant-loop-digit : goal.invariant-loop-digit
invariant-loop-digit l = (l.value ≡ value_from 0 (take l.digit-index l.digits)) × (l.value ≤ l.most)
