-- A schedule: the numbers of ranks, joined by commas.
use Rattle.std.specs.Prelude.{ℕ, ◌==◌, nat_le, cond, List, [], ◌∷◌, length, Option, Some, None}
use Rattle.std.specs.List.{slice_split}
use Rattle.std.specs.Option.{option_and_then}
use Rattle.icet_model.specs.declared.limits.TheConstants.{MAX_SCHEDULE}
use Rattle.icet_text.specs.Numbers.{with_number}
use Rattle.icet_text.specs.Numerals.{natural_in}

-- the numbers of these words, where each is a numeral from 0 to 255
abbrev pub entries_of : List (List ℕ) → Option (List ℕ)
entries_of [] = Some []
entries_of (word ∷ words) = with_number (natural_in (0, 255) word) (entries_of words)

-- at least one rank and at most so many, joined by commas, byte 44
abbrev pub schedule_of : List ℕ → Option (List ℕ)
schedule_of text = option_and_then (λ entries. cond (nat_le (length entries) MAX_SCHEDULE) (Some entries) None) (entries_of (slice_split (λ byte. byte == 44) text))

-- the entries that are left: none where the schedule is at its end
abbrev pub entries_behind : Option (List ℕ) → List (List ℕ)
entries_behind None = []
entries_behind (Some rest) = slice_split (λ byte. byte == 44) rest
