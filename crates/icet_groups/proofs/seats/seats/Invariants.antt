use Rattle.std.proofs.Common.{◌≡◌}
use Rattle.icet_groups.specs.Seats.{seats_after}
use Rattle.icet_groups.proofs.seats.seats.Given as goal

abbrev pub invariant-loop-t : goal.invariant-loop-t
invariant-loop-t l = l.all.items ≡ seats_after l.ranks l.tiles l.places l.t
