use Rattle.std.proofs.Common.{◌≡◌, ℕ, None, length}
use Rattle.icet_model.specs.Ports.{at_list}
use Rattle.icet_rank.proofs.slots.empty_slots.Given as goal

abbrev pub invariant-loop-made : goal.invariant-loop-made
invariant-loop-made l = record {
  count : length l.slots.items ≡ l._made;
  empty : (k : ℕ) → at_list l.slots.items k ≡ None;
}
