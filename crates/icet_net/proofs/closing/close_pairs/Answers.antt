use Rattle.std.proofs.Common.{◌≡◌, Some, ap, ◌∙◌, arith}
use Rattle.std.specs.List.{slice_get}
use Rattle.std.proofs.lemmas.Option.{slice_get_within}
use Rattle.icet_net.specs.CloseSteps.{entry_of}
use Rattle.icet_net.proofs.ClosePorts.{still_closable, keeps_more, pairs_more, pair_read, log_more, entry_before, taken_before}
use Rattle.icet_net.proofs.closing.close_pairs.Goals as goal

pub close_one-requires-clause-closable : goal.close_one-requires-clause-closable
close_one-requires-clause-closable g c κs within =
    let at = pair_read c.args.pairs.now c.closing.i c.index-pairs-i.result c.closing-test.true c.index-pairs-i.is in
    let p = c.closing.invariant.ports in
    still_closable _ _ _ _ _ _ p.out_count p.in_count (p.outs c.closing.i _ (omega arith) at) (p.ins c.closing.i _ (omega arith) at) (c.requires.closable c.closing.i _ at)

pub closing-preserved : goal.closing-preserved
closing-preserved g c =
    let x = c.index-pairs-i.result in
    let at : slice_get c.args.pairs.now c.closing.i ≡ Some x = pair_read c.args.pairs.now c.closing.i c.index-pairs-i.result c.closing-test.true c.index-pairs-i.is in
    let v = c.closing.invariant in
    let e = c.close_one.ensures in
    record {
      ports = keeps_more _ c.requires.distinct _ _ _ _ _ _ c.closing.i x at v.ports e.outboxes e.inboxes;
      kept = e.kept ∙ v.kept;
      taken = pairs_more _ c.args.pairs.now c.closing.i x at (taken_before _ _ _ _ _ c.closing.i x at v.ports e.taken) v.taken;
      log = log_more _ c.args.pairs.now c.closing.i c.index-pairs-i.result _ _ _ _ c.closing-test.true e.log (entry_before _ _ _ _ _ c.closing.i x at v.ports ∙ ap (entry_of _) c.index-pairs-i.is) v.log;
      owed = let a = e.owed in let b = v.owed in omega (arith, a, b);
    }

pub returns-clause-taken : goal.returns-clause-taken
returns-clause-taken g c = λ i p at. c.closing.invariant.taken i p (let l = slice_get_within c.args.pairs.now i p at in let f = c.closing-test.false in omega (arith, l, f)) at
