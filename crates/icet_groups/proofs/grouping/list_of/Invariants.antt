use Rattle.std.proofs.Common.{◌≡◌, get_or}
use Rattle.std.specs.Prelude.{filter, None}
use Rattle.std.specs.List.{range_with_len}
use Rattle.icet_groups.specs.Seats.{is_of}
use Rattle.icet_groups.proofs.grouping.list_of.Given as goal

abbrev pub invariant-loop-r : goal.invariant-loop-r
invariant-loop-r l = l.ranks.items ≡ filter (λ r. is_of l.t (get_or l.seats r None)) (range_with_len 0 l.r)
