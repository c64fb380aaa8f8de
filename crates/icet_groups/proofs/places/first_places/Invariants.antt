use Rattle.std.proofs.Common.{◌≡◌, map, min, take}
use Rattle.icet_groups.proofs.places.first_places.Given as goal

abbrev pub invariant-loop-count : goal.invariant-loop-count
invariant-loop-count l = l.all.items ≡ map (λ c. min c 1) (take l.count-index l.counts)
