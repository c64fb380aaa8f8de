-- Numerals are the decimal texts of their numbers.
use Rattle.std.proofs.Common.{◌≡◌, ◌≢◌, ℕ, ◌+◌, ◌-◌, ◌*◌, ◌/◌, ◌%◌, ◌<◌, ◌^◌, Bool, true, false, cond, List, [], ◌∷◌, ◌++◌, length, get_or, Some, None, refl, sym, ap, ◌∙◌, subst, arith, eq-eqb, ne_eqb}
use Rattle.std.specs.Prelude.{◌&&◌, not, decimal}
use Rattle.std.specs.List.{list_all}
use Rattle.std.specs.Int.{IsInRange}
use Rattle.std.proofs.lemmas.Bool.Decides.{nat_tests}
use Rattle.std.proofs.lemmas.Str.Parse.{IsDigitsTest, FoldsDigits, IsNumeralModel, numerals_by_fold}
use Rattle.std.proofs.lemmas.Fmt.{digits_decimal, digits_value-decimal, decimal-digits_value, decimal_by_steps}
use Rattle.icet_text.specs.Numerals.{is_digit, value_from, starts_well, is_natural, natural_of}

abbrev AreDigits : List ℕ → Type 0
AreDigits word = list_all is_digit word ≡ true

digit_range : (c : ℕ) → is_digit c ≡ true → IsInRange 48 57 c
digit_range c e = grind (arith, nat_tests, e)

in_range : (c : ℕ) → IsInRange 48 57 c → is_digit c ≡ true
in_range c r = grind (arith, nat_tests, r)

both : (a b : Bool) → (a && b) ≡ true → (a ≡ true) × (b ≡ true)
both true b e = (refl, e)
both false b e = absurd cc

together : (a b : Bool) → a ≡ true → b ≡ true → (a && b) ≡ true
together true b e f = f
together false b e f = absurd cc

test : IsDigitsTest AreDigits
test = record {
  empty = refl;
  parts = λ c cs e. let h = both (is_digit c) (list_all is_digit cs) e in (digit_range c h.0, h.1);
  more = λ c cs r e. together (is_digit c) (list_all is_digit cs) (in_range c r) e;
}

folds : FoldsDigits value_from
folds = record { empty = λ n. refl; more = λ n c cs r. ap (λ m. value_from (m + (c - 48)) cs) (let e : 10 * n ≡ n * 10 = omega arith in e) }

model : IsNumeralModel AreDigits (value_from 0)
model = numerals_by_fold AreDigits test value_from folds

-- a decimal text has a first digit, which is no 0 where a further one follows
record StartsWell (n : ℕ) (word : List ℕ) : Type 0 where
  well : starts_well word ≡ true
  first : 0 < n → get_or word 0 48 ≢ 48
  some : 0 < length word

longer : (n : ℕ) (word : List ℕ) (digit : ℕ) → 0 < n → StartsWell n word → starts_well (word ++ digit ∷ []) ≡ true
longer n [] digit l s = absurd (let h = s.some in omega (arith, h))
longer n (a ∷ []) digit l s = ap not (ne_eqb a 48 (s.first l))
longer n (a ∷ b ∷ word) digit l s = s.well

one_more : (n m : ℕ) (word : List ℕ) (digit : ℕ) → 0 < m → StartsWell m word → StartsWell n (word ++ digit ∷ [])
one_more n m [] digit l s = absurd (let h = s.some in omega (arith, h))
one_more n m (a ∷ word) digit l s = record { well = longer m (a ∷ word) digit l s; first = λ _. s.first l; some = omega arith }

decimal_starts : (n : ℕ) → n < 2 ^ 64 → StartsWell n (decimal n)
decimal_starts = decimal_by_steps StartsWell
    (λ n l. record { well = refl; first = λ p e. absurd (omega (arith, p, e)); some = omega arith })
    (λ n word l s. one_more n (n / 10) word (48 + n % 10) (omega (arith, l)) s)

pub natural_of_decimal : (n : ℕ) → n < 2 ^ 64 → natural_of (decimal n) ≡ Some n
natural_of_decimal n l =
    let numeral = together (starts_well (decimal n)) (list_all is_digit (decimal n)) (decimal_starts n l).well (digits_decimal model n l) in
    ap (λ b. cond b (Some (value_from 0 (decimal n))) None) numeral ∙ ap Some (digits_value-decimal model n l)

some_digit : (word : List ℕ) → starts_well word ≡ true → 0 < length word
some_digit [] e = absurd cc
some_digit (a ∷ word) e = omega arith

zero_alone : (word : List ℕ) → starts_well word ≡ true → get_or word 0 0 ≡ 48 → length word ≡ 1
zero_alone [] e f = absurd cc
zero_alone (a ∷ []) e f = refl
zero_alone (a ∷ b ∷ word) e f = absurd (let g = eq-eqb a 48 f in let h : false ≡ true = ap not (sym g) ∙ e in cc)

pub decimal_of_number : (word : List ℕ) (n : ℕ) → n < 2 ^ 64 → natural_of word ≡ Some n → word ≡ decimal n
decimal_of_number word n l e = go (is_natural word) refl e
  where
    go : (b : Bool) → is_natural word ≡ b → cond b (Some (value_from 0 word)) None ≡ Some n → word ≡ decimal n
    go false is none = absurd cc
    go true is same =
        let parts = both (starts_well word) (list_all is_digit word) is in
        let value : value_from 0 word ≡ n = cc in
        let text = decimal-digits_value model word parts.1 (some_digit word parts.0) (zero_alone word parts.0) (subst (λ v. v < 2 ^ 64) (sym value) l) in
        sym text ∙ ap decimal value
