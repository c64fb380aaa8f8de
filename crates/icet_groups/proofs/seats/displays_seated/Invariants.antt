use Rattle.std.proofs.Common.{◌≡◌, length}
use Rattle.icet_groups.specs.Seats.{displays_seated}
use Rattle.icet_groups.proofs.seats.displays_seated.Given as goal

abbrev pub invariant-loop-t : goal.invariant-loop-t
invariant-loop-t l = record {
  many : length l.all.items ≡ l.ranks;
  are : l.all.items ≡ displays_seated l.ranks l.tiles l.t;
}
