use Rattle.std.proofs.Common.{◌≡◌, ◌++◌}
use Rattle.std.specs.Vec.Iter.{into_iter_items}
use Rattle.icet_jobs.specs.Drawings.{images_in}
use Rattle.icet_jobs.proofs.drawing.images_in.Given as goal

abbrev pub invariant-loop-slot : goal.invariant-loop-slot
invariant-loop-slot l = l.images.items ++ images_in (into_iter_items l.slot-iterator) ≡ images_in l.fn.slots.items
