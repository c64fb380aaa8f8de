-- Lists one behind the other.
use Rattle.std.specs.Prelude.{ℕ, zero, suc, List, [], ◌++◌}

-- the lists for 0 to k - 1, one behind the other
abbrev pub each : {V : Type 0} → (ℕ → List V) → ℕ → List V
each f zero = []
each f (suc k) = each f k ++ f k
