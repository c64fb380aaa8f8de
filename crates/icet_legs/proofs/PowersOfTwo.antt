-- The powers of two around a number.
use Rattle.std.proofs.Common.{◌≡◌, ℕ, zero, suc, ◌^◌, ◌<◌, ◌≤◌, Bool, true, false, cond, refl, ap, subst, arith, eqb-true, ⊎_elim}
use Rattle.std.proofs.Math.Nat.{pow-succ'}
use Rattle.std.proofs.Math.Pow.{pow-lt}
use Rattle.std.proofs.lemmas.Bool.{eqb-false}
use Rattle.std.proofs.lemmas.Bool.Decides.{nat_tests}
use Rattle.std.specs.Prelude.{◌⊎◌, ◌==◌, nat_le}
use Rattle.icet_legs.specs.Powers.{ceil_log2, floor_log2, greatest_power}

pub below_power : (m : ℕ) → m < 2 ^ m
below_power zero = omega arith
below_power (suc m) = let h = below_power m in let e = pow-succ' 2 m in omega (arith, h, e)

le_test : (a b : ℕ) → nat_le a b ≡ true → a ≤ b
le_test a b t = grind (arith, nat_tests)

past_test : (a b : ℕ) → nat_le a b ≡ false → b < a
past_test a b t = grind (arith, nat_tests)

-- it is such a power, and each other one up to the bound is no greater
greatest : (bound n : ℕ) → 0 < n → (2 ^ greatest_power bound n ≤ n) × ((j : ℕ) → j ≤ bound → 2 ^ j ≤ n → j ≤ greatest_power bound n)
greatest zero n some = (omega (arith, some), λ j l h. l)
greatest (suc bound) n some = go (nat_le (2 ^ suc bound) n) refl (greatest bound n some)
  where
    go : (t : Bool) → nat_le (2 ^ suc bound) n ≡ t → (2 ^ greatest_power bound n ≤ n) × ((j : ℕ) → j ≤ bound → 2 ^ j ≤ n → j ≤ greatest_power bound n) → (2 ^ cond t (suc bound) (greatest_power bound n) ≤ n) × ((j : ℕ) → j ≤ suc bound → 2 ^ j ≤ n → j ≤ cond t (suc bound) (greatest_power bound n))
    go true e past = (le_test (2 ^ suc bound) n e, λ j l h. l)
    go false e past = (
      past.0,
      λ j l h. past.1 j (⊎_elim
          (λ (s : j ≡ suc bound). absurd (let z = past_test (2 ^ suc bound) n e in let k = subst (λ x. 2 ^ x ≤ n) s h in omega (arith, z, k)))
          (λ (s : j ≤ bound). s)
          (let z : (j ≡ suc bound) ⊎ (j ≤ bound) = grind arith in z)) h,
    )

module _ (n : ℕ) (some : 0 < n) where
  pub floor_low : 2 ^ floor_log2 n ≤ n
  floor_low = (greatest n n some).0

  pub floor_high : n < 2 ^ suc (floor_log2 n)
  floor_high = ⊎_elim
      (λ (h : n < 2 ^ suc (floor_log2 n)). h)
      (λ (h : 2 ^ suc (floor_log2 n) ≤ n).
      let b = below_power (suc (floor_log2 n)) in
      let z = (greatest n n some).1 (suc (floor_log2 n)) (omega (arith, b, h)) h in
      absurd (omega (arith, z)))
      (let z : (n < 2 ^ suc (floor_log2 n)) ⊎ (2 ^ suc (floor_log2 n) ≤ n) = grind arith in z)

  pub floor_below : floor_log2 n < n
  floor_below = let l = floor_low in let b = below_power (floor_log2 n) in omega (arith, l, b)

  -- no other number is between
  pub floor_is : (m : ℕ) → 2 ^ m ≤ n → n < 2 ^ suc m → m ≡ floor_log2 n
  floor_is m low high =
      let b = below_power m in
      let up = (greatest n n some).1 m (omega (arith, b, low)) low in
      ⊎_elim
      (λ (l : m < floor_log2 n). absurd (let w = power_up (suc m) (floor_log2 n) (omega (arith, l)) in let f = floor_low in omega (arith, w, f, high)))
      (λ (l : floor_log2 n ≤ m). let z : m ≡ floor_log2 n = omega (arith, l, up) in z)
      (let z : (m < floor_log2 n) ⊎ (floor_log2 n ≤ m) = grind arith in z)
    where
      power_up : (i j : ℕ) → i ≤ j → 2 ^ i ≤ 2 ^ j
      power_up i j l = ⊎_elim
          (λ (k : i < j). let p = pow-lt k in omega (arith, p))
          (λ (k : i ≡ j). let p = ap (λ x. 2 ^ x) k in omega (arith, p))
          (let z : (i < j) ⊎ (i ≡ j) = grind (arith, l) in z)

  pub ceil_high : n ≤ 2 ^ ceil_log2 n
  ceil_high = go (2 ^ floor_log2 n == n) refl
    where
      go : (t : Bool) → (2 ^ floor_log2 n == n) ≡ t → n ≤ 2 ^ cond t (floor_log2 n) (suc (floor_log2 n))
      go true e = let z = eqb-true (2 ^ floor_log2 n) n e in omega (arith, z)
      go false e = let h = floor_high in omega (arith, h)

  pub ceil_below : ceil_log2 n ≤ n
  ceil_below = go (2 ^ floor_log2 n == n)
    where
      go : (t : Bool) → cond t (floor_log2 n) (suc (floor_log2 n)) ≤ n
      go true = let b = floor_below in omega (arith, b)
      go false = let b = floor_below in omega (arith, b)

  -- no lesser one is enough
  pub ceil_least : (k : ℕ) → n ≤ 2 ^ k → ceil_log2 n ≤ k
  ceil_least k high = go (2 ^ floor_log2 n == n) refl
    where
      up : (i j : ℕ) → i ≤ j → 2 ^ i ≤ 2 ^ j
      up i j l = ⊎_elim
          (λ (k : i < j). let p = pow-lt k in omega (arith, p))
          (λ (k : i ≡ j). let p = ap (λ x. 2 ^ x) k in omega (arith, p))
          (let z : (i < j) ⊎ (i ≡ j) = grind (arith, l) in z)

      go : (t : Bool) → (2 ^ floor_log2 n == n) ≡ t → cond t (floor_log2 n) (suc (floor_log2 n)) ≤ k
      go true e = ⊎_elim
          (λ (l : k < floor_log2 n). absurd (let p = pow-lt l in let f = floor_low in omega (arith, p, f, high)))
          (λ (l : floor_log2 n ≤ k). l)
          (let z : (k < floor_log2 n) ⊎ (floor_log2 n ≤ k) = grind arith in z)
      go false e = ⊎_elim
          (λ (l : k ≤ floor_log2 n). absurd (let p = up k (floor_log2 n) l in let f = floor_low in let d = eqb-false (2 ^ floor_log2 n) n e in d (let z : 2 ^ floor_log2 n ≡ n = omega (arith, p, f, high) in z)))
          (λ (l : floor_log2 n < k). l)
          (let z : (k ≤ floor_log2 n) ⊎ (floor_log2 n < k) = grind arith in z)
