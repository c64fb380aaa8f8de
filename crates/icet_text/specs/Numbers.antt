-- The numbers of a line: one word for each field.
use Rattle.std.specs.Prelude.{ℕ, ℤ, pos, neg_ℤ, false, List, [], ◌∷◌, ◌≤◌, Option, Some, None, option_map, cond, slice_index_or}
use Rattle.icet_text.specs.Numerals.{number_in}
use Rattle.icet_text.specs.declared.field.Number.{Number}
use Rattle.icet_text.specs.declared.field.Field.{Field}

-- a number, and those behind it, where all are there
abbrev pub with_number : {A : Type 0} → Option A → Option (List A) → Option (List A)
with_number None ns = None
with_number (Some n) ns = option_map (λ rest. n ∷ rest) ns

-- the numbers of the words, where there is one word for each field, and the field takes its number
abbrev pub numbers_in : List Field → List (List ℕ) → Option (List Number)
numbers_in [] [] = Some []
numbers_in [] (word ∷ words) = None
numbers_in (field ∷ fields) [] = None
numbers_in (field ∷ fields) (word ∷ words) = with_number (number_in field word) (numbers_in fields words)

-- the sizes of the words' numbers, where one field takes each of them
abbrev pub sizes_in : Field → List (List ℕ) → Option (List ℕ)
sizes_in field [] = Some []
sizes_in field (word ∷ words) = with_number (option_map (λ n. n.size) (number_in field word)) (sizes_in field words)

-- what stands for a number that a list doesn't have
abbrev pub no_number : Number
no_number = record { is_negative = false; size = 0 }

-- the size of the number at a place of a line
abbrev pub size_at : List Number → ℕ → ℕ
size_at ns i = (slice_index_or ns i no_number).size

-- the number with its sign
abbrev pub signed : Number → ℤ
signed n = cond n.is_negative (neg_ℤ (pos n.size)) (pos n.size)

-- the number at a place of a line, with its sign
abbrev pub signed_at : List Number → ℕ → ℤ
signed_at ns i = signed (slice_index_or ns i no_number)

-- the size of a number lies in its field's range
pub record IsIn (field : Field) (n : Number) : Type 0 where
  pub least : field.least ≤ n.size
  pub greatest : n.size ≤ field.greatest

-- the number at a place of a line lies in its field's range
abbrev pub IsInAt : List Field → List Number → ℕ → Type 0
IsInAt fields ns i = IsIn (slice_index_or fields i (record { is_signed = false; least = 0; greatest = 0 })) (slice_index_or ns i no_number)
