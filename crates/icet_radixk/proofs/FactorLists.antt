-- The factors of a number: each is the next one of the rest, they multiply to the number, and there are few.
use Rattle.std.proofs.Common.{◌≡◌, ◌≢◌, ℕ, zero, suc, ◌+◌, ◌-◌, ◌*◌, ◌/◌, ◌%◌, ◌<◌, ◌≤◌, Bool, true, false, cond, List, [], ◌∷◌, ◌++◌, length, refl, sym, ap, ◌∙◌, subst, arith, eqb-true, ⊎_elim}
use Rattle.std.proofs.Math.Nat.{div-add-mod, mul-le-mul_right, mul_left_comm}
use Rattle.std.proofs.lemmas.Bool.{eqb-false}
use Rattle.std.proofs.lemmas.Bool.Decides.{nat_tests}
use Rattle.std.proofs.lemmas.Nat.{mod-mul-add}
use Rattle.std.proofs.lemmas.List.{append-nil, append_assoc}
use Rattle.std.specs.Prelude.{◌==◌, ◌⊎◌, nat_lt}
use Rattle.icet_legs.specs.Radix.{stride}
use Rattle.icet_radixk.specs.Factors.{AreFactors, IsNextFactor, factor_at, factors, factors_of_rest, largest_divisor, product}
use Rattle.icet_radixk.specs.Radixk.{AreFactorsOf}

itself : (n : ℕ) → 1 < n → n % n ≡ 0
itself n l = let z : n ≡ 1 * n + 0 = omega arith in ap (λ x. x % n) z ∙ mod-mul-add 1 n 0 (omega arith)

next_is : (k n : ℕ) → 1 < n → IsNextFactor k n (largest_divisor k n)
next_is zero n l = record {
  divides = itself n l;
  some = l;
  largest = λ d some low div. absurd (omega (arith, some, low));
  whole = λ h. (refl, λ d some low div. absurd (omega (arith, some, low)));
}
next_is (suc zero) n l = record {
  divides = itself n l;
  some = l;
  largest = λ d some low div. absurd (omega (arith, some, low));
  whole = λ h. (refl, λ d some low div. absurd (omega (arith, some, low)));
}
next_is (suc (suc k)) n l = go (n % suc (suc k) == 0) refl (next_is (suc k) n l)
  where
    go : (t : Bool) → (n % suc (suc k) == 0) ≡ t → IsNextFactor (suc k) n (largest_divisor (suc k) n) → IsNextFactor (suc (suc k)) n (cond t (suc (suc k)) (largest_divisor (suc k) n))
    go true e past = record {
      divides = eqb-true (n % suc (suc k)) 0 e;
      some = omega arith;
      largest = λ d some low div. low;
      whole = λ h. absurd (omega (arith, h));
    }
    go false e past =
        let none : n % suc (suc k) ≢ 0 = eqb-false (n % suc (suc k)) 0 e in
        let lower : (d : ℕ) → d ≤ suc (suc k) → n % d ≡ 0 → d ≤ suc k = λ d low div. ⊎_elim
        (λ (s : d ≡ suc (suc k)). absurd (none (subst (λ x. n % x ≡ 0) s div)))
        (λ (s : d ≤ suc k). s)
        (let z : (d ≡ suc (suc k)) ⊎ (d ≤ suc k) = grind (arith, low) in z) in
        record {
          divides = past.divides;
          some = past.some;
          largest = λ d some low div. past.largest d some (lower d low div) div;
          whole = λ h. let w = past.whole (omega (arith, h)) in (w.0, λ d some low div. w.1 d some (lower d low div) div);
        }

twice : (f q : ℕ) → 1 < f → 2 * q ≤ f * q
twice f q l = mul-le-mul_right q (let z : 2 ≤ f = omega (arith, l) in z)

-- what is left behind a factor
rest_is : (n f : ℕ) → n % f ≡ 0 → n ≡ f * (n / f)
rest_is n f e = let d = div-add-mod n f in omega (arith, d, e)

rest_low : (n f : ℕ) → 1 < n → 1 < f → n % f ≡ 0 → n / f < n
rest_low n f l m e = let r = rest_is n f e in go (n / f) r
  where
    go : (q : ℕ) → n ≡ f * q → q < n
    go zero r = omega (arith, l)
    go (suc q) r = let s = twice f (suc q) m in omega (arith, s, r)

rest_some : (n f : ℕ) → 1 < n → n % f ≡ 0 → 0 < n / f
rest_some n f l e = let r = rest_is n f e in go (n / f) r
  where
    go : (q : ℕ) → n ≡ f * q → 0 < q
    go zero r = absurd (let z : f * 0 ≡ 0 = omega arith in omega (arith, r, z, l))
    go (suc q) r = omega arith

exceeds : (n : ℕ) → nat_lt 1 n ≡ true → 1 < n
exceeds n t = grind (arith, nat_tests)

one_at_most : (n : ℕ) → nat_lt 1 n ≡ false → n ≤ 1
one_at_most n t = grind (arith, nat_tests)

rest_factors : (fuel k n : ℕ) → 0 < n → n ≤ fuel → AreFactors k n (factors_of_rest fuel k n)
rest_factors zero k n some low = absurd (omega (arith, some, low))
rest_factors (suc fuel) k n some low = go (nat_lt 1 n) refl (λ r s l. rest_factors fuel k r s l)
  where
    go : (t : Bool) → nat_lt 1 n ≡ t → ((r : ℕ) → 0 < r → r ≤ fuel → AreFactors k r (factors_of_rest fuel k r)) → AreFactors k n (cond t (largest_divisor k n ∷ factors_of_rest fuel k (n / largest_divisor k n)) [])
    go true e past =
        let l = exceeds n e in
        let f = next_is k n l in
        let d = rest_low n (largest_divisor k n) l f.some f.divides in
        (f, past (n / largest_divisor k n) (rest_some n (largest_divisor k n) l f.divides) (omega (arith, d, low)))
    go false e past = let o = one_at_most n e in omega (arith, o, some)

pub are_factors : (k n : ℕ) → 0 < n → AreFactors k n (factors k n)
are_factors k n some = rest_factors n k n some (omega arith)

no_divisor : (n y : ℕ) → n ≡ 1 → 1 < y → n ≡ y * (n / y) → ⊥
no_divisor n y e s r = go (n / y) r
  where
    go : (q : ℕ) → n ≡ y * q → ⊥
    go zero r = let z : y * 0 ≡ 0 = omega arith in omega (arith, r, z, e)
    go (suc q) r = let m = twice y (suc q) s in omega (arith, m, r, e)

-- no other list are the factors
pub one_list : (k n : ℕ) (xs ys : List ℕ) → AreFactors k n xs → AreFactors k n ys → xs ≡ ys
one_list k n [] [] f h = refl
one_list k n [] (y ∷ ys) f h = absurd (no_divisor n y f h.0.some (rest_is n y h.0.divides))
one_list k n (x ∷ xs) [] f h = absurd (no_divisor n x h f.0.some (rest_is n x f.0.divides))
one_list k n (x ∷ xs) (y ∷ ys) f h =
    let same : x ≡ y = equal f.0 h.0 in
    let rest = one_list k (n / y) xs ys (subst (λ z. AreFactors k (n / z) xs) same f.1) h.1 in
    λ j. same j ∷ rest j
  where
    equal : IsNextFactor k n x → IsNextFactor k n y → x ≡ y
    equal a b = ⊎_elim
        (λ (l : x ≤ k). ⊎_elim
        (λ (m : y ≤ k). let p = b.largest x a.some l a.divides in let q = a.largest y b.some m b.divides in let z : x ≡ y = omega (arith, p, q) in z)
        (λ (m : k < y). absurd ((b.whole m).1 x a.some l a.divides))
        (let s : (y ≤ k) ⊎ (k < y) = grind arith in s))
        (λ (l : k < x). ⊎_elim
        (λ (m : y ≤ k). absurd ((a.whole l).1 y b.some m b.divides))
        (λ (m : k < y). (a.whole l).0 ∙ sym (b.whole m).0)
        (let s : (y ≤ k) ⊎ (k < y) = grind arith in s))
        (let s : (x ≤ k) ⊎ (k < x) = grind arith in s)

pub product_is : (k n : ℕ) (fs : List ℕ) → AreFactors k n fs → product fs ≡ n
product_is k n [] h = sym h
product_is k n (f ∷ fs) h = ap (λ z. f * z) (product_is k (n / f) fs h.1) ∙ sym (rest_is n f h.0.divides)

all_some : (k n : ℕ) (fs : List ℕ) → AreFactors k n fs → (i : ℕ) → 0 < factor_at fs i
all_some k n [] h i = omega arith
all_some k n (f ∷ fs) h zero = let s = h.0.some in omega (arith, s)
all_some k n (f ∷ fs) h (suc i) = all_some k (n / f) fs h.1 i

-- the stride behind all rounds is the product
stride_shifts : (f : ℕ) (fs : List ℕ) (i : ℕ) → stride (factor_at (f ∷ fs)) (suc i) ≡ f * stride (factor_at fs) i
stride_shifts f fs zero = refl
stride_shifts f fs (suc i) = ap (λ z. factor_at fs i * z) (stride_shifts f fs i) ∙ mul_left_comm (factor_at fs i) f (stride (factor_at fs) i)

stride_all : (fs : List ℕ) → stride (factor_at fs) (length fs) ≡ product fs
stride_all [] = refl
stride_all (f ∷ fs) = stride_shifts f fs (length fs) ∙ ap (λ z. f * z) (stride_all fs)

pub factors_of : (k n : ℕ) → 0 < n → AreFactorsOf n (factor_at (factors k n)) (length (factors k n))
factors_of k n some =
    let h = are_factors k n some in
    record { many = all_some k n (factors k n) h; product = sym (stride_all (factors k n) ∙ product_is k n (factors k n) h) }

-- there are fewer factors than participants
pub few_factors : (k n : ℕ) (fs : List ℕ) → AreFactors k n fs → length fs < n
few_factors k n fs h = subst (λ z. length fs < z) (product_is k n fs h) (go k n fs h)
  where
    go : (k n : ℕ) (fs : List ℕ) → AreFactors k n fs → length fs < product fs
    go k n [] h = omega arith
    go k n (f ∷ fs) h =
        let past = go k (n / f) fs h.1 in
        let s = h.0.some in
        let m = twice f (product fs) s in
        omega (arith, past, m)

-- the code's steps
pub divisor_step : (d n : ℕ) → 1 < d → largest_divisor d n ≡ cond (n % d == 0) d (largest_divisor (d - 1) n)
divisor_step zero n l = absurd (omega (arith, l))
divisor_step (suc zero) n l = absurd (omega (arith, l))
divisor_step (suc (suc d)) n l = ap (λ z. cond (n % suc (suc d) == 0) (suc (suc d)) (largest_divisor z n)) (let z : suc d ≡ suc (suc d) - 1 = omega arith in z)

pub divisor_end : (d n : ℕ) → d ≤ 1 → largest_divisor d n ≡ n
divisor_end zero n l = refl
divisor_end (suc zero) n l = refl
divisor_end (suc (suc d)) n l = absurd (omega (arith, l))

pub factors_end : (k n : ℕ) → n ≤ 1 → factors k n ≡ []
factors_end k zero l = refl
factors_end k (suc zero) l = refl
factors_end k (suc (suc n)) l = absurd (omega (arith, l))

pub factors_step : (k n : ℕ) → 1 < n → factors k n ≡ largest_divisor k n ∷ factors k (n / largest_divisor k n)
factors_step k n l =
    let f = next_is k n l in
    let rest = are_factors k (n / largest_divisor k n) (rest_some n (largest_divisor k n) l f.divides) in
    one_list k n (factors k n) (largest_divisor k n ∷ factors k (n / largest_divisor k n)) (are_factors k n (omega (arith, l))) (f, rest)

pub left_less : (k n : ℕ) → 1 < n → n / largest_divisor k n < n
left_less k n l = let f = next_is k n l in rest_low n (largest_divisor k n) l f.some f.divides

pub left_some : (k n : ℕ) → 1 < n → 0 < n / largest_divisor k n
left_some k n l = let f = next_is k n l in rest_some n (largest_divisor k n) l f.divides

-- one factor more
pub record StandsFor (k n rest : ℕ) (all : List ℕ) : Type 0 where
  pub some : 0 < rest
  pub rest_are : all ++ factors k rest ≡ factors k n

pub factor_pushed : (k n rest f : ℕ) (old new : List ℕ) → 1 < rest → f ≡ largest_divisor k rest → StandsFor k n rest old → new ≡ old ++ f ∷ [] → StandsFor k n (rest / f) new
factor_pushed k n rest f old new l e past is = record {
  some = subst (λ z. 0 < rest / z) (sym e) (left_some k rest l);
  rest_are =
      ap (λ z. z ++ factors k (rest / f)) is
      ∙ (append_assoc old (f ∷ []) (factors k (rest / f))
      ∙ (ap (λ z. old ++ z ∷ factors k (rest / z)) e
      ∙ (ap (λ z. old ++ z) (sym (factors_step k rest l)) ∙ past.rest_are)));
}

pub all_factors : (k n rest : ℕ) (all : List ℕ) → rest ≤ 1 → StandsFor k n rest all → all ≡ factors k n
all_factors k n rest all l h = sym (append-nil all) ∙ (ap (λ z. all ++ z) (sym (factors_end k rest l)) ∙ h.rest_are)
