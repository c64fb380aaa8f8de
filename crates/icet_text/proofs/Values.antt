-- The value of digits, one digit after the other.
use Rattle.std.proofs.Common.{◌≡◌, ℕ, zero, suc, ◌+◌, ◌-◌, ◌*◌, ◌<◌, ◌≤◌, cond, List, [], ◌∷◌, ◌++◌, length, take, drop, get_or, refl, sym, ap, ◌∙◌, arith, Some, None, subst, take-append-drop}
use Rattle.std.specs.Prelude.{nat_le}
use Rattle.std.proofs.lemmas.List.{take_more}
use Rattle.std.proofs.lemmas.Bool.Decides.{nat_tests}
use Rattle.icet_text.specs.Numerals.{value_from}

pub value_from-append : (a : ℕ) (xs ys : List ℕ) → value_from a (xs ++ ys) ≡ value_from (value_from a xs) ys
value_from-append a [] ys = refl
value_from-append a (x ∷ xs) ys = value_from-append (10 * a + (x - 48)) xs ys

value_from-grows : (a : ℕ) (xs : List ℕ) → a ≤ value_from a xs
value_from-grows a [] = omega arith
value_from-grows a (x ∷ xs) = omega (arith, value_from-grows (10 * a + (x - 48)) xs)

-- the first i digits, and one more
pub value_more : (xs : List ℕ) (i : ℕ) → i < length xs → value_from 0 (take (i + 1) xs) ≡ 10 * value_from 0 (take i xs) + (get_or xs i 0 - 48)
value_more xs i l = ap (value_from 0) (take_more xs i 0 l) ∙ value_from-append 0 (take i xs) (get_or xs i 0 ∷ [])

-- more digits make no less
pub value_exceeds : (xs : List ℕ) (i most : ℕ) → most < value_from 0 (take i xs) → cond (nat_le (value_from 0 xs) most) (Some (value_from 0 xs)) None ≡ None
value_exceeds xs i most l =
    let whole : value_from 0 xs ≡ value_from (value_from 0 (take i xs)) (drop i xs) = ap (value_from 0) (sym (take-append-drop i xs)) ∙ value_from-append 0 (take i xs) (drop i xs) in
    let more : most < value_from 0 xs = omega (arith, whole, value_from-grows (value_from 0 (take i xs)) (drop i xs)) in
    grind (arith, nat_tests)

-- ten, multiplied by itself so many times
abbrev pub tens : ℕ → ℕ
tens zero = 1
tens (suc n) = 10 * tens n

tens_grow : (n k : ℕ) → tens n ≤ tens (k + n)
tens_grow n zero = let e : 0 + n ≡ n = omega arith in rw e (omega arith)
tens_grow n (suc k) =
    let e : suc k + n ≡ suc (k + n) = omega arith in
    let m : tens (suc k + n) ≡ 10 * tens (k + n) = ap tens e in
    omega (arith, m, tens_grow n k)

-- a ninth digit makes a number of nine digits
pub tens_few : (n : ℕ) → n < 9 → tens n ≤ 100000000
tens_few n l =
    let e : (8 - n) + n ≡ 8 = omega (arith, l) in
    subst (λ k. tens n ≤ tens k) e (tens_grow n (8 - n))

pub tens_more : (n : ℕ) → tens (n + 1) ≡ 10 * tens n
tens_more n = let e : n + 1 ≡ suc n = omega arith in ap tens e
