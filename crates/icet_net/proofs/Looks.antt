-- Machines that are looked at one after the other.
use Rattle.std.proofs.Common.{◌≡◌, ℕ, ◌+◌, ◌<◌, List, length, get_or, sym, subst, arith, inl, inr}
use Rattle.std.specs.Prelude.{◌⊎◌, ◌≢◌}
use Rattle.icet_rank.specs.Machine.{MachineView}
use Rattle.icet_net.specs.Ranks.{machine_at, no_machine}
use Rattle.icet_model.proofs.Numbers.{same_or_not}
use Rattle.icet_model.proofs.Lists.{any_default}

-- what holds of the machines below i and of machine i holds of one more
pub one_more : (P : MachineView → Type 0) (ms : List MachineView) (i : ℕ) (d : MachineView) → i < length ms → P (get_or ms i d) → ((r : ℕ) → r < i → P (machine_at ms r)) → (r : ℕ) → r < i + 1 → P (machine_at ms r)
one_more P ms i d l here before r m = go (same_or_not r i)
  where
    go : (r ≡ i) ⊎ (r ≢ i) → P (machine_at ms r)
    go (inl e) = subst (λ k. P (machine_at ms k)) (sym e) (subst P (any_default ms i d no_machine l) here)
    go (inr e) = before r (omega (arith, m, e))
