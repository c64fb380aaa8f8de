use Rattle.std.proofs.Common.{◌≡◌, ◌++◌, length}
use Rattle.std.specs.Vec.Iter.{into_iter_items}
use Rattle.icet_radixk.specs.Radixk.{folded}
use Rattle.icet_radixk.proofs.folds.fold_neighbours.Given as goal

abbrev pub invariant-loop-first : goal.invariant-loop-first
invariant-loop-first l = l.all.items ++ folded l.fn.count (into_iter_items l.rest) ≡ folded l.fn.count l.fn.parts.items

abbrev pub decreases-loop-first : goal.decreases-loop-first
decreases-loop-first l = length (into_iter_items l.rest)
