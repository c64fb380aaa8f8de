-- The numbers of a line, one word after the other.
use Rattle.std.proofs.Common.{◌≡◌, ℕ, zero, suc, ◌+◌, ◌-◌, ◌<◌, Bool, true, false, cond, List, [], ◌∷◌, ◌++◌, length, take, drop, get_or, refl, sym, ap, ◌∙◌, subst, arith, Option, Some, None, add-one, append_assoc, append-nil, length-append}
use Rattle.std.specs.Prelude.{option_map, ◌==◌}
use Rattle.std.proofs.lemmas.List.Splits.{length-slice_split}
use Rattle.std.proofs.Math.Seq.{drop-cons}
use Rattle.std.proofs.lemmas.List.{drop_all}
use Rattle.std.proofs.lemmas.Bool.Decides.{nat_tests}
use Rattle.icet_text.specs.declared.field.Field.{Field}
use Rattle.icet_text.specs.declared.field.Number.{Number}
use Rattle.icet_text.specs.Numerals.{number_in, takes, value_of, is_numeral}
use Rattle.icet_text.specs.Numbers.{with_number, numbers_in, IsIn, IsInAt}
use Rattle.icet_text.specs.Lines.{words_of}

-- the numbers of the first fields are read, and the others are those of the words that are left
pub record HasRead (fields : List Field) (all : List (List ℕ)) (at : ℕ) (values : List Number) (rest : List (List ℕ)) : Type 0 where
  pub count : length values ≡ at
  pub left : rest ≡ drop at all
  pub same : numbers_in fields (take (length fields) all) ≡ option_map (λ ns. values ++ ns) (numbers_in (drop at fields) (take (length fields - at) rest))

cut : (fields : List Field) (i : ℕ) (field : Field) → i < length fields → get_or fields i field ≡ field → drop i fields ≡ field ∷ drop (i + 1) fields
cut fields i field l e = drop-cons fields i field l ∙ ap (λ r. r ∷ drop (suc i) fields) e ∙ ap (λ n. field ∷ drop n fields) (sym (add-one i))

first_of : (n i : ℕ) (word : List ℕ) (rest : List (List ℕ)) → i < n → take (n - i) (word ∷ rest) ≡ word ∷ take (n - (i + 1)) rest
first_of n i word rest l =
    let e : n - i ≡ suc (n - (i + 1)) = omega arith in
    ap (λ m. take m (word ∷ rest)) e

behind : (i : ℕ) (word : List ℕ) (rest all : List (List ℕ)) → word ∷ rest ≡ drop i all → rest ≡ drop (i + 1) all
behind zero word rest [] e = absurd cc
behind zero word rest (x ∷ all) e = let f : rest ≡ all = cc in f
behind (suc i) word rest [] e = absurd cc
behind (suc i) word rest (x ∷ all) e = behind i word rest all e ∙ ap (λ n. drop n (x ∷ all)) (let e : suc (i + 1) ≡ suc i + 1 = omega arith in e)

-- a further word that is a number which its field takes
pub read_more : (fields : List Field) (all : List (List ℕ)) (i : ℕ) (n : Number) (values : List Number) (word : List ℕ) (rest : List (List ℕ)) (field : Field) → i < length fields → get_or fields i field ≡ field → HasRead fields all i values (word ∷ rest) → number_in field word ≡ Some n
    → HasRead fields all (i + 1) (values ++ n ∷ []) rest
read_more fields all i n values word rest field l e h number = record {
  count = omega (arith, length-append values (n ∷ []), h.count);
  left = behind i word rest all h.left;
  same =
      h.same
      ∙ ap (λ ws. option_map (λ ns. values ++ ns) (numbers_in (drop i fields) ws)) (first_of (length fields) i word rest l)
      ∙ ap (λ rs. option_map (λ ns. values ++ ns) (numbers_in rs (word ∷ later))) (cut fields i field l e)
      ∙ ap (λ m. option_map (λ ns. values ++ ns) (with_number m (numbers_in (drop (i + 1) fields) later))) number
      ∙ go (numbers_in (drop (i + 1) fields) later);
}
  where
    later : List (List ℕ)
    later = take (length fields - (i + 1)) rest

    go : (o : Option (List Number)) → option_map (λ ns. values ++ ns) (with_number (Some n) o) ≡ option_map (λ ns. (values ++ n ∷ []) ++ ns) o
    go None = refl
    go (Some ns) = ap Some (sym (append_assoc values (n ∷ []) ns))

-- a word that is no number, or one that its field doesn't take
pub read_misfit : (fields : List Field) (all : List (List ℕ)) (i : ℕ) (values : List Number) (word : List ℕ) (rest : List (List ℕ)) (field : Field) → i < length fields → get_or fields i field ≡ field → HasRead fields all i values (word ∷ rest) → number_in field word ≡ None
    → numbers_in fields (take (length fields) all) ≡ None
read_misfit fields all i values word rest field l e h number =
    h.same
    ∙ ap (λ ws. option_map (λ ns. values ++ ns) (numbers_in (drop i fields) ws)) (first_of (length fields) i word rest l)
    ∙ ap (λ rs. option_map (λ ns. values ++ ns) (numbers_in rs (word ∷ take (length fields - (i + 1)) rest))) (cut fields i field l e)
    ∙ ap (λ m. option_map (λ ns. values ++ ns) (with_number m (numbers_in (drop (i + 1) fields) (take (length fields - (i + 1)) rest)))) number

take_none : (n : ℕ) (words : List (List ℕ)) → words ≡ [] → take n words ≡ []
take_none zero [] e = refl
take_none (suc n) [] e = refl
take_none n (word ∷ words) e = absurd cc

-- a word that is missing
pub read_short : (fields : List Field) (all : List (List ℕ)) (i : ℕ) (values : List Number) (d : Field) → i < length fields → HasRead fields all i values [] → numbers_in fields (take (length fields) all) ≡ None
read_short fields all i values d l h =
    h.same
    ∙ ap (λ ws. option_map (λ ns. values ++ ns) (numbers_in (drop i fields) ws)) (take_none (length fields - i) [] refl)
    ∙ ap (λ rs. option_map (λ ns. values ++ ns) (numbers_in rs [])) (drop-cons fields i d l)

-- each field has its word
pub read_whole : (fields : List Field) (all : List (List ℕ)) (values : List Number) (rest : List (List ℕ)) → HasRead fields all (length fields) values rest → numbers_in fields (take (length fields) all) ≡ Some values
read_whole fields all values rest h =
    h.same
    ∙ ap (λ n. option_map (λ ns. values ++ ns) (numbers_in (drop (length fields) fields) (take n rest))) (let e : length fields - length fields ≡ 0 = omega arith in e)
    ∙ ap (λ rs. option_map (λ ns. values ++ ns) (numbers_in rs [])) (drop_all (length fields) fields (omega arith))
    ∙ ap Some (append-nil values)

pub read_none : (fields : List Field) (all : List (List ℕ)) → HasRead fields all 0 [] all
read_none fields all = record { count = refl; left = refl; same = ap (λ n. numbers_in fields (take n all)) (let e : length fields ≡ length fields - 0 = omega arith in e) ∙ go (numbers_in fields (take (length fields - 0) all)) }
  where
    go : (o : Option (List Number)) → o ≡ option_map (λ ns. [] ++ ns) o
    go None = refl
    go (Some ns) = refl

from_number : (field : Field) (word : List ℕ) (o : Option (List Number)) (ns : List Number) → with_number (number_in field word) o ≡ Some ns → (n : Number) × (rest : List Number) × (number_in field word ≡ Some n) × (o ≡ Some rest) × (ns ≡ n ∷ rest)
from_number field word o ns e = go (number_in field word) o refl refl e
  where
    go : (m : Option Number) (p : Option (List Number)) → number_in field word ≡ m → o ≡ p → with_number m p ≡ Some ns → (n : Number) × (rest : List Number) × (number_in field word ≡ Some n) × (o ≡ Some rest) × (ns ≡ n ∷ rest)
    go None p a b e = absurd cc
    go (Some n) None a b e = absurd cc
    go (Some n) (Some rest) a b e = (n, rest, a, b, cc)

range_of : (field : Field) (n : Number) → takes field n ≡ true → IsIn field n
range_of field n e = record { least = grind (arith, nat_tests, e); greatest = grind (arith, nat_tests, e) }

taken : (field : Field) (word : List ℕ) (n : Number) → number_in field word ≡ Some n → IsIn field n
taken field word n e = outer (is_numeral word) e
  where
    inner : (b : Bool) → takes field (value_of word) ≡ b → cond b (Some (value_of word)) None ≡ Some n → IsIn field n
    inner true is e = let same : value_of word ≡ n = cc in subst (λ m. IsIn field m) same (range_of field (value_of word) is)
    inner false is e = absurd cc

    outer : (b : Bool) → cond b (cond (takes field (value_of word)) (Some (value_of word)) None) None ≡ Some n → IsIn field n
    outer true e = inner (takes field (value_of word)) refl e
    outer false e = absurd cc

-- each number lies in its field's range
pub numbers_within : (fields : List Field) (words : List (List ℕ)) (ns : List Number) → numbers_in fields words ≡ Some ns → (i : ℕ) → i < length fields → IsInAt fields ns i
numbers_within [] words ns e i l = absurd (omega arith)
numbers_within (field ∷ fields) [] ns e i l = absurd cc
numbers_within (field ∷ fields) (word ∷ words) ns e i l =
    let h = from_number field word (numbers_in fields words) ns e in
    subst (λ xs. IsInAt (field ∷ fields) xs i) (sym h.4)
    (elim i as (λ k. k < length (field ∷ fields) → IsInAt (field ∷ fields) (h.0 ∷ h.1) k) [
      | zero ↦ λ l. taken field word h.0 h.2
      | suc k ↦ λ l. numbers_within fields words h.1 h.3 k (omega arith)
    ] l)

-- where no word is left behind the first ones, they are all
pub lead_whole : (fields : List Field) (words : List (List ℕ)) → drop (length fields) words ≡ [] → numbers_in fields words ≡ numbers_in fields (take (length fields) words)
lead_whole [] [] e = refl
lead_whole [] (word ∷ words) e = absurd cc
lead_whole (field ∷ fields) [] e = refl
lead_whole (field ∷ fields) (word ∷ words) e = ap (with_number (number_in field word)) (lead_whole fields words e)

with_none : (m : Option Number) → with_number m None ≡ None
with_none None = refl
with_none (Some n) = refl

-- a word too many
pub lead_longer : (fields : List Field) (words : List (List ℕ)) → 0 < length (drop (length fields) words) → numbers_in fields words ≡ None
lead_longer [] [] l = absurd (omega arith)
lead_longer [] (word ∷ words) l = refl
lead_longer (field ∷ fields) [] l = refl
lead_longer (field ∷ fields) (word ∷ words) l = ap (with_number (number_in field word)) (lead_longer fields words l) ∙ with_none (number_in field word)

-- the first words are no numbers of the fields
pub lead_misfit : (fields : List Field) (words : List (List ℕ)) → numbers_in fields (take (length fields) words) ≡ None → numbers_in fields words ≡ None
lead_misfit [] [] e = absurd cc
lead_misfit [] (word ∷ words) e = refl
lead_misfit (field ∷ fields) [] e = refl
lead_misfit (field ∷ fields) (word ∷ words) e = go (number_in field word) (numbers_in fields (take (length fields) words)) (lead_misfit fields words) refl e
  where
    go : (m : Option Number) (o : Option (List Number)) → (numbers_in fields (take (length fields) words) ≡ None → numbers_in fields words ≡ None) → numbers_in fields (take (length fields) words) ≡ o → with_number m o ≡ None → with_number m (numbers_in fields words) ≡ None
    go None o rest is e = refl
    go (Some n) None rest is e = ap (with_number (Some n)) (rest is)
    go (Some n) (Some ns) rest is e = absurd cc

pub some_words : (line : List ℕ) → 0 < length (words_of line)
some_words line = omega (arith, length-slice_split (λ b. b == 32) line)
