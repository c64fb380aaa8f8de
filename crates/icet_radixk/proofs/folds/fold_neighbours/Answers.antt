use Rattle.icet_radixk.proofs.FoldSteps.{folded_pushed}
use Rattle.icet_radixk.proofs.folds.fold_neighbours.Goals as goal

pub loop-first-preserved : goal.loop-first-preserved
loop-first-preserved c = folded_pushed c.args.count c.requires _ _ _ _ _ _ _ _ c.loop-first.invariant c.in-Some.ensures.items c.in_ok-fold_on.ensures.whole c.in_ok-fold_on.ensures.rest c.in_ok-push.ensures.items
