-- The lines of a text, and the words of a line.
use Rattle.std.specs.Prelude.{ℕ, ◌==◌, cond, List, [], ◌∷◌}
use Rattle.std.specs.List.{onto_first, slice_split}

-- each line ends at a newline, byte 10; an empty rest behind the last newline is no line
abbrev pub lines_of : List ℕ → List (List ℕ)
lines_of [] = []
lines_of (byte ∷ bytes) = cond (byte == 10) ([] ∷ lines_of bytes) (onto_first byte (lines_of bytes))

-- exactly one space, byte 32, stands between two words: two spaces in a row make an empty word
abbrev pub words_of : List ℕ → List (List ℕ)
words_of line = slice_split (λ byte. byte == 32) line
