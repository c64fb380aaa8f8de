use Rattle.std.proofs.Common.{◌≡◌, map}
use Rattle.std.specs.List.{range_with_len}
use Rattle.icet_groups.specs.Seats.{group_in}
use Rattle.icet_groups.proofs.grouping.lists_of.Given as goal

abbrev pub invariant-loop-t : goal.invariant-loop-t
invariant-loop-t l = map (λ ranks. ranks.items) l.all.items ≡ map (group_in l.seats) (range_with_len 0 l.t)
