-- The words that are left of a line.
use Rattle.std.specs.Prelude.{ℕ, cond, List, [], length, Option, Some, None, slice_index_or}
use Rattle.std.specs.List.{list_all}
use Rattle.icet_text.specs.Lines.{words_of}
use Rattle.icet_text.specs.Numerals.{is_numeral}

-- the words of what is left of a line; none where the line is at its end
abbrev pub words_behind : Option (List ℕ) → List (List ℕ)
words_behind None = []
words_behind (Some rest) = words_of rest

-- the first word of a line: a line has one, which may be empty
abbrev pub first_word : List ℕ → List ℕ
first_word line = slice_index_or (words_of line) 0 []

-- how many words there are, where each is a numeral
abbrev pub counted : List (List ℕ) → Option ℕ
counted words = cond (list_all is_numeral words) (Some (length words)) None
