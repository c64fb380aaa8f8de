use Rattle.std.proofs.Common.{◌≡◌, ◌++◌, map}
use Rattle.std.specs.Vec.Iter.{into_iter_items}
use Rattle.icet_legs.proofs.row.brackets_of.Given as goal

abbrev pub invariant-loop-tile : goal.invariant-loop-tile
invariant-loop-tile l = l.all.items ++ map (λ x. x.bracket) (into_iter_items l.tile-iterator) ≡ map (λ x. x.bracket) l.fn.legs.items
