use Rattle.std.proofs.Common.{◌≡◌, length, map, take}
use Rattle.icet_groups.proofs.grouping.counts_of.Given as goal

abbrev pub invariant-loop-tile : goal.invariant-loop-tile
invariant-loop-tile l = l.all.items ≡ map (λ x. length x.contributors) (take l.tile-index l.tiles)
