-- Two numbers compared.
use Rattle.std.proofs.Common.{◌≡◌, ℕ, ◌<◌, ◌≤◌, arith}
use Rattle.std.specs.Prelude.{◌⊎◌, ◌≢◌}

pub same_or_not : (a b : ℕ) → (a ≡ b) ⊎ (a ≢ b)
same_or_not a b = grind arith

pub within_or_past : (a b : ℕ) → (a < b) ⊎ (b ≤ a)
within_or_past a b = grind arith
