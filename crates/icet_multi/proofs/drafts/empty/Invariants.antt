use Rattle.std.proofs.Common.{◌≡◌, ℕ, [], get_or, length}
use Rattle.icet_multi.proofs.drafts.empty.Given as goal

abbrev pub invariant-loop-i : goal.invariant-loop-i
invariant-loop-i l = record {
  many : length l.all.items ≡ l._i;
  none : (r : ℕ) → get_or l.all.items r [] ≡ [];
}
