-- The factors by which radix-k splits a number of participants.
use Rattle.std.specs.Prelude.{◌≡◌, ◌≢◌, ℕ, zero, suc, ◌*◌, ◌/◌, ◌%◌, ◌<◌, ◌≤◌, ◌==◌, cond, nat_lt, List, [], ◌∷◌, get_or}

-- the largest divisor of n from 2 to k, and n itself where it has none
abbrev pub largest_divisor : ℕ → ℕ → ℕ
largest_divisor zero n = n
largest_divisor (suc zero) n = n
largest_divisor (suc (suc k)) n = cond (n % suc (suc k) == 0) (suc (suc k)) (largest_divisor (suc k) n)

-- while the rest exceeds 1 it is divided by its largest divisor; the first number bounds how often
abbrev pub factors_of_rest : ℕ → ℕ → ℕ → List ℕ
factors_of_rest zero k rest = []
factors_of_rest (suc fuel) k rest = cond (nat_lt 1 rest) (largest_divisor k rest ∷ factors_of_rest fuel k (rest / largest_divisor k rest)) []

abbrev pub factors : ℕ → ℕ → List ℕ
factors k n = factors_of_rest n k n

-- f is the largest divisor of the rest from 2 to k, or all of the rest where it has none
pub record IsNextFactor (k rest f : ℕ) : Type 0 where
  pub divides : rest % f ≡ 0
  pub some : 1 < f
  pub largest : (d : ℕ) → 1 < d → d ≤ k → rest % d ≡ 0 → d ≤ f
  pub whole : k < f → (f ≡ rest) × ((d : ℕ) → 1 < d → d ≤ k → rest % d ≢ 0)

-- each is the next factor of what is left behind those before, and in the end 1 is left
abbrev pub AreFactors : ℕ → ℕ → List ℕ → Type 0
AreFactors k rest [] = rest ≡ 1
AreFactors k rest (f ∷ fs) = IsNextFactor k rest f × AreFactors k (rest / f) fs

abbrev pub product : List ℕ → ℕ
product [] = 1
product (f ∷ fs) = f * product fs

-- the factor of round i, counted from 0
abbrev pub factor_at : List ℕ → ℕ → ℕ
factor_at fs i = get_or fs i 1
