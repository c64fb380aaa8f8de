-- The sizes of the numbers of a line, one word after the other.
use Rattle.std.proofs.Common.{◌≡◌, ℕ, List, [], ◌∷◌, ◌++◌, refl, sym, ap, ◌∙◌, Option, Some, None, append_assoc, append-nil, false}
use Rattle.std.specs.Prelude.{option_map}
use Rattle.std.specs.Option.{is_some}
use Rattle.icet_text.specs.declared.field.Field.{Field}
use Rattle.icet_text.specs.declared.field.Number.{Number}
use Rattle.icet_text.specs.Numerals.{number_in}
use Rattle.icet_text.specs.Numbers.{with_number, sizes_in}

-- the sizes of the first words are read, and the others are those of the words that are left
pub record HasSizes (field : Field) (all : List (List ℕ)) (values : List ℕ) (rest : List (List ℕ)) : Type 0 where
  pub same : sizes_in field all ≡ option_map (λ ns. values ++ ns) (sizes_in field rest)

none_read : (o : Option (List ℕ)) → o ≡ option_map (λ ns. [] ++ ns) o
none_read None = refl
none_read (Some ns) = refl

pub sizes_start : (field : Field) (all : List (List ℕ)) → HasSizes field all [] all
sizes_start field all = record { same = none_read (sizes_in field all) }

one_more : (values : List ℕ) (n : ℕ) (o : Option (List ℕ)) → option_map (λ ns. values ++ ns) (with_number (Some n) o) ≡ option_map (λ ns. (values ++ n ∷ []) ++ ns) o
one_more values n None = refl
one_more values n (Some ns) = ap Some (sym (append_assoc values (n ∷ []) ns))

pub sizes_more : (field : Field) (all : List (List ℕ)) (values : List ℕ) (word : List ℕ) (rest : List (List ℕ)) (n : Number) → HasSizes field all values (word ∷ rest) → number_in field word ≡ Some n → HasSizes field all (values ++ n.size ∷ []) rest
sizes_more field all values word rest n h e = record { same = h.same ∙ ap (λ m. option_map (λ ns. values ++ ns) (with_number (option_map (λ x. x.size) m) (sizes_in field rest))) e ∙ one_more values n.size (sizes_in field rest) }

pub sizes_misfit : (field : Field) (all : List (List ℕ)) (values : List ℕ) (word : List ℕ) (rest : List (List ℕ)) → HasSizes field all values (word ∷ rest) → number_in field word ≡ None → sizes_in field all ≡ None
sizes_misfit field all values word rest h e = h.same ∙ ap (λ m. option_map (λ ns. values ++ ns) (with_number (option_map (λ x. x.size) m) (sizes_in field rest))) e

pub sizes_end : (field : Field) (all : List (List ℕ)) (values : List ℕ) → HasSizes field all values [] → sizes_in field all ≡ Some values
sizes_end field all values h = h.same ∙ ap Some (append-nil values)

with_some : (n : ℕ) (o : Option (List ℕ)) → is_some (with_number (Some n) o) ≡ is_some o
with_some n None = refl
with_some n (Some ns) = refl

-- a number in the range leaves it to the words behind it
pub in_more : (field : Field) (word : List ℕ) (rest : List (List ℕ)) (n : Number) → number_in field word ≡ Some n → is_some (sizes_in field (word ∷ rest)) ≡ is_some (sizes_in field rest)
in_more field word rest n e = ap (λ m. is_some (with_number (option_map (λ x. x.size) m) (sizes_in field rest))) e ∙ with_some n.size (sizes_in field rest)

pub in_misfit : (field : Field) (word : List ℕ) (rest : List (List ℕ)) → number_in field word ≡ None → is_some (sizes_in field (word ∷ rest)) ≡ false
in_misfit field word rest e = ap (λ m. is_some (with_number (option_map (λ x. x.size) m) (sizes_in field rest))) e
