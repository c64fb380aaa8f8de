use Rattle.std.proofs.Common.{◌≡◌, ◌<◌, take, true}
use Rattle.std.specs.List.{list_all}
use Rattle.icet_text.specs.Numerals.{is_digit, value_from}
use Rattle.icet_text.proofs.Values.{tens}
use Rattle.icet_text.proofs.first_number.digits_in.Given as goal

abbrev pub invariant-loop-byte : goal.invariant-loop-byte
invariant-loop-byte l = (l.count ≡ l.byte-index) × (l.value ≡ value_from 0 (take l.count l.bytes)) × (list_all is_digit (take l.count l.bytes) ≡ true) × (l.value < tens l.count)
