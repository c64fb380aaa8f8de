-- The words of a line counted, one after the other.
use Rattle.std.proofs.Common.{◌≡◌, ◌∙◌, ℕ, ◌+◌, ◌≤◌, false, ap, cond, drop, List, length, Option, Some, None}
use Rattle.std.specs.Prelude.{◌&&◌}
use Rattle.std.specs.List.{list_all}
use Rattle.icet_text.specs.Numerals.{is_numeral}
use Rattle.icet_text.specs.Lines.{words_of}
use Rattle.icet_text.specs.Words.{words_behind, first_word, counted}
use Rattle.icet_text.proofs.FirstWords.{first_stands}

-- how many bytes are left of a line, and one for its end
abbrev pub bytes_left : Option (List ℕ) → ℕ
bytes_left None = 0
bytes_left (Some line) = length line + 1

-- so many words are counted, all of them numerals
pub record HasCounted (all : List (List ℕ)) (line : Option (List ℕ)) (count : ℕ) (rest : Option (List ℕ)) : Type 0 where
  pub same : list_all is_numeral all ≡ list_all is_numeral (words_behind rest)
  pub count_is : length all ≡ count + length (words_behind rest)
  pub few : count + bytes_left rest ≤ bytes_left line

-- a word that is no numeral
pub counts_none : (all : List (List ℕ)) (line : Option (List ℕ)) (count : ℕ) (rest : List ℕ) → HasCounted all line count (Some rest) → is_numeral (first_word rest) ≡ false → counted all ≡ None
counts_none all line count rest h is =
    let none : list_all is_numeral (words_of rest) ≡ false = ap (list_all is_numeral) (first_stands rest) ∙ ap (λ b. b && list_all is_numeral (drop 1 (words_of rest))) is in
    ap (λ b. cond b (Some (length all)) None) (h.same ∙ none)
