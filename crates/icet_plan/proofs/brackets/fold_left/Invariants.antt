use Rattle.std.proofs.Common.{◌≡◌}
use Rattle.std.specs.Vec.Iter.{into_iter_items}
use Rattle.icet_model.specs.BracketFold.{left, left_from}
use Rattle.icet_plan.proofs.brackets.fold_left.Given as goal

abbrev pub invariant-loop-part : goal.invariant-loop-part
invariant-loop-part l = left_from l.whole (into_iter_items l.part-iterator) ≡ left l.fn.parts.items
