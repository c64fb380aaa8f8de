use Rattle.std.proofs.Common.{◌≡◌, ℕ, List, length}
use Rattle.icet_groups.specs.Seating.{AreMarks, IsSeating}
use Rattle.icet_groups.proofs.seats.seat_marked.Given as goal

abbrev pub invariant-loop-r : goal.invariant-loop-r
invariant-loop-r l = record {
  many : length l.seats.items ≡ length l.fn.seats.items;
  seating : (contributors : List ℕ) → AreMarks (length l.fn.seats.items) contributors l.marks → IsSeating l.t contributors l.fn.seats.items l.fn.count l.r l.seats.items l.left;
}
