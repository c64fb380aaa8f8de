-- A line whose first bytes are a numeral: where the word ends, it is the line's first.
use Rattle.std.proofs.Common.{◌≡◌, ℕ, zero, suc, ◌+◌, ◌<◌, Bool, true, false, List, [], ◌∷◌, length, take, drop, get_or, refl, sym, ap, ◌∙◌, subst, arith}
use Rattle.std.specs.Prelude.{◌==◌, ◌&&◌, not}
use Rattle.std.specs.List.{list_all, onto_first}
use Rattle.std.proofs.lemmas.List.Splits.{length-slice_split}
use Rattle.std.proofs.lemmas.List.{take_all}
use Rattle.std.proofs.lemmas.Bool.Decides.{nat_tests}
use Rattle.icet_text.specs.Lines.{words_of}
use Rattle.icet_text.specs.Words.{first_word}
use Rattle.icet_text.specs.Numerals.{is_digit, starts_well, is_natural, begins_with, is_negative, digits_of, is_numeral}

abbrev is_space : ℕ → Bool
is_space byte = byte == 32

abbrev no_space : ℕ → Bool
no_space byte = not (byte == 32)

both : (a b : Bool) → (a && b) ≡ true → (a ≡ true) × (b ≡ true)
both true b e = (refl, e)
both false b e = absurd cc

pub together : (a b : Bool) → a ≡ true → b ≡ true → (a && b) ≡ true
together true b e f = f
together false b e f = absurd cc

digit_no_space : (byte : ℕ) → is_digit byte ≡ true → no_space byte ≡ true
digit_no_space byte e = grind (arith, nat_tests, e)

digits_no_space : (word : List ℕ) → list_all is_digit word ≡ true → list_all no_space word ≡ true
digits_no_space [] e = refl
digits_no_space (byte ∷ word) e =
    let h = both (is_digit byte) (list_all is_digit word) e in
    together (no_space byte) (list_all no_space word) (digit_no_space byte h.0) (digits_no_space word h.1)

minus_no_space : (byte : ℕ) → (byte == 45) ≡ true → no_space byte ≡ true
minus_no_space byte e = grind (arith, nat_tests, e)

-- no space stands in a numeral
numeral_no_space : (word : List ℕ) → is_numeral word ≡ true → list_all no_space word ≡ true
numeral_no_space [] e = refl
numeral_no_space (byte ∷ word) e = go (byte == 45) refl
  where
    natural : is_natural (digits_of (byte ∷ word)) ≡ true
    natural = (both (is_natural (digits_of (byte ∷ word))) _ e).0

    digits : list_all is_digit (digits_of (byte ∷ word)) ≡ true
    digits = (both (starts_well (digits_of (byte ∷ word))) (list_all is_digit (digits_of (byte ∷ word))) natural).1

    go : (b : Bool) → (byte == 45) ≡ b → list_all no_space (byte ∷ word) ≡ true
    go true is =
        let same : digits_of (byte ∷ word) ≡ word = rw is refl in
        together (no_space byte) (list_all no_space word) (minus_no_space byte is) (digits_no_space word (subst (λ ds. list_all is_digit ds ≡ true) same digits))
    go false is =
        let same : digits_of (byte ∷ word) ≡ byte ∷ word = rw is refl in
        digits_no_space (byte ∷ word) (subst (λ ds. list_all is_digit ds ≡ true) same digits)

whole : (line : List ℕ) → list_all no_space line ≡ true → words_of line ≡ line ∷ []
whole [] e = refl
whole (byte ∷ line) e = go (byte == 32) refl (whole line h.1)
  where
    h : (no_space byte ≡ true) × (list_all no_space line ≡ true)
    h = both (no_space byte) (list_all no_space line) e

    go : (b : Bool) → (byte == 32) ≡ b → words_of line ≡ line ∷ [] → words_of (byte ∷ line) ≡ (byte ∷ line) ∷ []
    go true is rest = absurd (let f : false ≡ true = rw is at h.0 in cc)
    go false is rest =
        let s : words_of (byte ∷ line) ≡ onto_first byte (words_of line) = rw is refl in
        s ∙ ap (onto_first byte) rest

cut : (line : List ℕ) (n : ℕ) → list_all no_space (take n line) ≡ true → n < length line → get_or line n 0 ≡ 32 → words_of line ≡ take n line ∷ words_of (drop (n + 1) line)
cut [] n e l is = absurd (omega arith)
cut (byte ∷ line) zero e l is =
    let b : (byte == 32) ≡ true = rw is refl in
    rw b refl
cut (byte ∷ line) (suc n) e l is = go (byte == 32) refl (cut line n h.1 (omega (arith, l)) is)
  where
    h : (no_space byte ≡ true) × (list_all no_space (take n line) ≡ true)
    h = both (no_space byte) (list_all no_space (take n line)) e

    go : (b : Bool) → (byte == 32) ≡ b → words_of line ≡ take n line ∷ words_of (drop (n + 1) line) → words_of (byte ∷ line) ≡ take (suc n) (byte ∷ line) ∷ words_of (drop (suc n + 1) (byte ∷ line))
    go true b rest = absurd (let f : false ≡ true = rw b at h.0 in cc)
    go false b rest =
        let s : words_of (byte ∷ line) ≡ onto_first byte (words_of line) = rw b refl in
        let e' : suc (n + 1) ≡ suc n + 1 = omega arith in
        s ∙ ap (onto_first byte) rest
        ∙ ap (λ k. (byte ∷ take n line) ∷ words_of (drop k (byte ∷ line))) e'

-- the first word is one of the words
pub first_of : (line : List ℕ) (word : List ℕ) (rest : List (List ℕ)) → words_of line ≡ word ∷ rest → first_word line ≡ word
first_of line word rest e = rw e refl

-- a line has a first word
pub first_stands : (line : List ℕ) → words_of line ≡ first_word line ∷ drop 1 (words_of line)
first_stands line = go (words_of line) refl
  where
    go : (words : List (List ℕ)) → words_of line ≡ words → words_of line ≡ first_word line ∷ drop 1 (words_of line)
    go [] e = absurd (let z : length (words_of line) ≡ 0 = ap length e in omega (arith, z, length-slice_split (λ byte. byte == 32) line))
    go (word ∷ rest) e = e ∙ rw e refl

-- a line that is a numeral
pub numeral_whole : (line : List ℕ) (n : ℕ) → is_numeral (take n line) ≡ true → n ≡ length line → words_of line ≡ take n line ∷ []
numeral_whole line n e l =
    let all : take n line ≡ line = take_all n line (omega (arith, l)) in
    whole line (subst (λ xs. list_all no_space xs ≡ true) all (numeral_no_space (take n line) e)) ∙ ap (λ xs. xs ∷ []) (sym all)

-- a line with a space behind a numeral
pub numeral_cut : (line : List ℕ) (n : ℕ) → is_numeral (take n line) ≡ true → n < length line → get_or line n 0 ≡ 32 → words_of line ≡ take n line ∷ words_of (drop (n + 1) line)
numeral_cut line n e l is = cut line n (numeral_no_space (take n line) e) l is

-- a sign before the digits
pub sign_before : (line : List ℕ) (n : ℕ) → begins_with 45 line ≡ true → take (n + 1) line ≡ 45 ∷ take n (drop 1 line)
sign_before [] n e = absurd cc
sign_before (byte ∷ line) n e =
    let is : byte ≡ 45 = grind (arith, nat_tests, e) in
    let m : n + 1 ≡ suc n = omega arith in
    ap (λ k. take k (byte ∷ line)) m ∙ ap (λ b. b ∷ take n line) is

-- no sign
pub no_sign : (line : List ℕ) (n : ℕ) → begins_with 45 line ≡ false → is_negative (take n line) ≡ false
no_sign line zero e = refl
no_sign [] (suc n) e = refl
no_sign (byte ∷ line) (suc n) e = e
