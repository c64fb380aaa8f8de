-- A fault is answered only where a count of faults rose, and a count rises only where a fault is answered.
use Rattle.std.specs.Prelude.{◌≡◌, ℕ, ◌+◌, ◌-◌, ◌^◌, ◌≤◌, min, Result, OnOk, OnErr}

-- the count rose by one; it stands still at the greatest value of its type
abbrev pub Rose : ℕ → ℕ → Type 0
Rose before now = now ≡ min (before + 1) (2 ^ 64 - 1)

-- the count rose where the call failed, and is as before where it went well; it never falls
pub record HasCause {T E : Type 0} (before now : ℕ) (result : Result T E) : Type 0 where
  pub later : before ≤ now
  pub well : OnOk result (now ≡ before)
  pub failed : OnErr result (Rose before now)
