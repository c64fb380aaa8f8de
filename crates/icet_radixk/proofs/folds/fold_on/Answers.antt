use Rattle.icet_radixk.proofs.FoldSteps.{drop_more, step_pair}
use Rattle.icet_radixk.proofs.folds.fold_on.Goals as goal

pub loop-i-preserved : goal.loop-i-preserved
loop-i-preserved c = record {
  whole = step_pair c.args.count c.loop-i._i c.loop-i-test.true c.args.first c.loop-i.whole _ c.in_ok-whole.whole _ _ _ c.loop-i.invariant.whole c.in-Some.ensures.items c.in_ok-whole.ensures;
  rest = drop_more c.args.count c.loop-i._i c.loop-i-test.true _ _ _ _ c.loop-i.invariant.rest c.in-Some.ensures.items;
}
