use Rattle.std.proofs.Common.{◌≡◌, length}
use Rattle.icet_groups.specs.Places.{places_after}
use Rattle.icet_groups.proofs.places.places.Given as goal

abbrev pub invariant-loop-i : goal.invariant-loop-i
invariant-loop-i l = record {
  each : length l.all.items ≡ length l.counts;
  are : l.all.items ≡ places_after l.counts l._i;
}
