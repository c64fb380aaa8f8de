use Rattle.std.proofs.Common.{◌≡◌, map, take}
use Rattle.icet_model.specs.declared.bracket.Bracket.TheVariants.{Leaf}
use Rattle.icet_multi.proofs.tile.leaves.Given as goal

abbrev pub invariant-loop-rank : goal.invariant-loop-rank
invariant-loop-rank l = l.all.items ≡ map (λ r. Leaf r) (take l.rank-index l.ranks)
