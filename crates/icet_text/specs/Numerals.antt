-- Decimal numerals: 0, or a digit from 1 to 9 and then digits, or a minus sign and such a numeral that
-- isn't 0; of any length.
use Rattle.std.specs.Prelude.{ℕ, ◌+◌, ◌-◌, ◌*◌, Bool, true, false, ◌&&◌, nat_le, ◌==◌, not, cond, List, [], ◌∷◌, drop, Option, Some, None}
use Rattle.std.specs.List.{list_all}
use Rattle.std.specs.Option.{option_and_then}
use Rattle.icet_text.specs.declared.field.Number.{Number}
use Rattle.icet_text.specs.declared.field.Field.{Field}

-- the byte of one of the digits 0 to 9
abbrev pub is_digit : ℕ → Bool
is_digit byte = nat_le 48 byte && nat_le byte 57

-- the number that the digits make behind those that made the number so far
abbrev pub value_from : ℕ → List ℕ → ℕ
value_from so_far [] = so_far
value_from so_far (digit ∷ digits) = value_from (10 * so_far + (digit - 48)) digits

-- there is a first digit, and no further one behind a leading 0
abbrev pub starts_well : List ℕ → Bool
starts_well [] = false
starts_well (first ∷ []) = true
starts_well (first ∷ second ∷ rest) = not (first == 48)

-- a numeral without a sign
abbrev pub is_natural : List ℕ → Bool
is_natural word = starts_well word && list_all is_digit word

-- the number that a word is the numeral of, without a sign
abbrev pub natural_of : List ℕ → Option ℕ
natural_of word = cond (is_natural word) (Some (value_from 0 word)) None

-- the number, where it lies in its field's range
abbrev pub within : ℕ → ℕ → ℕ → Option ℕ
within least greatest n = cond (nat_le least n && nat_le n greatest) (Some n) None

-- the number of a word, where it is a numeral without a sign, from a least to a greatest number
abbrev pub natural_in : ℕ × ℕ → List ℕ → Option ℕ
natural_in range word = option_and_then (within range.0 range.1) (natural_of word)

abbrev pub begins_with : ℕ → List ℕ → Bool
begins_with byte [] = false
begins_with byte (first ∷ rest) = first == byte

-- a minus sign, byte 45, stands first
abbrev pub is_negative : List ℕ → Bool
is_negative word = begins_with 45 word

-- the digits behind the sign, where there is one
abbrev pub digits_of : List ℕ → List ℕ
digits_of word = cond (is_negative word) (drop 1 word) word

-- a numeral, with or without a sign; 0 has none
abbrev pub is_numeral : List ℕ → Bool
is_numeral word = is_natural (digits_of word) && not (is_negative word && begins_with 48 (digits_of word))

-- the field takes the number
abbrev pub takes : Field → Number → Bool
takes field number = not (number.is_negative && not field.is_signed) && (nat_le field.least number.size && nat_le number.size field.greatest)

abbrev pub value_of : List ℕ → Number
value_of word = record { is_negative = is_negative word; size = value_from 0 (digits_of word) }

-- the number of a word, where it is a numeral and the field takes its number
abbrev pub number_in : Field → List ℕ → Option Number
number_in field word = cond (is_numeral word) (cond (takes field (value_of word)) (Some (value_of word)) None) None
