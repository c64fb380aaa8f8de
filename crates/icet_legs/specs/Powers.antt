-- Powers of two around a number.
use Rattle.std.specs.Prelude.{ℕ, zero, suc, ◌^◌, ◌==◌, cond, nat_le}

-- the greatest m up to the bound with 2 ^ m <= n, and 0 where there is none
abbrev pub greatest_power : ℕ → ℕ → ℕ
greatest_power zero n = 0
greatest_power (suc bound) n = cond (nat_le (2 ^ suc bound) n) (suc bound) (greatest_power bound n)

-- the greatest m with 2 ^ m <= n, for n from 1 on
abbrev pub floor_log2 : ℕ → ℕ
floor_log2 n = greatest_power n n

-- the least q with n <= 2 ^ q, for n from 1 on
abbrev pub ceil_log2 : ℕ → ℕ
ceil_log2 n = cond (2 ^ floor_log2 n == n) (floor_log2 n) (suc (floor_log2 n))
