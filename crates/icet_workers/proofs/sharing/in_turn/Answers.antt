use Rattle.std.proofs.Common.{◌<◌, length, subst, arith, IsOk}
use Rattle.std.proofs.lemmas.List.{get_or_default}
use Rattle.icet_workers.specs.Shares.{Does}
use Rattle.icet_workers.proofs.EachDone.{done_more}
use Rattle.icet_workers.proofs.sharing.in_turn.Goals as goal

pub loop-at-preserved : goal.loop-at-preserved
loop-at-preserved g c =
    let at = c.loop-at.at in
    let items = c.loop-at.items in
    let l : at < length items = omega (arith, c.loop-at.invariant.count) in
    done_more g.F.Fn c.args.f.now (IsOk c.loop-at.so_far) (IsOk c.at_one-answer.result) (IsOk c.both_fine-so_far.result) at c.args.items.now items c.at_one-answer.new.item
    c.both_fine-so_far.ensures.one c.both_fine-so_far.ensures.two l c.loop-at.invariant
    (λ d. subst (λ x. Does g.F.Fn c.args.f.now (IsOk c.at_one-answer.result) x c.at_one-answer.new.item) (get_or_default items at _ d l) c.at_one-answer.ensures)
