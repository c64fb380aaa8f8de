use Rattle.std.proofs.Common.{◌≡◌, ◌<◌, ℕ, List, length}
use Rattle.icet_groups.specs.Seating.{NoneWaits}
use Rattle.icet_groups.proofs.Seatings.{IsFilling}
use Rattle.icet_groups.proofs.seats.seat_free.Given as goal

abbrev pub invariant-loop-r : goal.invariant-loop-r
invariant-loop-r l = record {
  many : length l.seats.items ≡ length l.fn.seats.items;
  filling : (contributors : List ℕ) → (0 < l.fn.count → NoneWaits contributors l.fn.seats.items (length l.fn.seats.items)) → IsFilling l.t contributors l.fn.seats.items l.fn.count l.r l.seats.items l.left;
}
