use Rattle.std.proofs.Common.{◌≡◌, ◌-◌, drop, take}
use Rattle.std.specs.Vec.Iter.{into_iter_items}
use Rattle.icet_model.specs.BracketFold.{left_from}
use Rattle.icet_radixk.proofs.folds.fold_on.Given as goal

abbrev pub invariant-loop-i : goal.invariant-loop-i
invariant-loop-i l = record {
  whole : left_from l.fn.first (take l.fn.count (into_iter_items l.fn.rest)) ≡ left_from l.whole (take (l.fn.count - l._i) (into_iter_items l.rest));
  rest : drop l.fn.count (into_iter_items l.fn.rest) ≡ drop (l.fn.count - l._i) (into_iter_items l.rest);
}
