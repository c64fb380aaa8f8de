use Rattle.std.proofs.Common.{rules, sym, subst, ◌++◌, IsOk, List}
use Rattle.icet_workers.specs.Shares.{Does, EachDoes}
use Rattle.icet_workers.proofs.EachDone.{each_append, each_does_less}
use Rattle.icet_workers.proofs.sharing.+shares.Goals as goal

pub both-returns-clause-front : goal.both-returns-clause-front
both-returns-clause-front g t c =
    each_does_less g.F.Fn c.args.f.now (IsOk c.join_mut-one.result.1) (IsOk c.both_fine.result) c.args.front.now _ c.both_fine.ensures.two (search rules)

pub both-returns-clause-back : goal.both-returns-clause-back
both-returns-clause-back g t c =
    each_does_less g.F.Fn c.args.f.now (IsOk c.join_mut-one.result.0) (IsOk c.both_fine.result) c.args.back.now _ c.both_fine.ensures.one (search rules)

pub first_shares-returns : goal.first_shares-returns
first_shares-returns g t c =
    let P = Does g.F.Fn c.args.f.now (IsOk c.both.result) in
    subst (λ (l : List g.row.T.Denot). EachDoes P l (c.both.new.front ++ c.both.new.back)) (sym c.split_at_mut-front.ensures.value)
    (each_append P c.split_at_mut-front.result.0.now c.split_at_mut-front.result.1.now c.both.new.front c.both.new.back c.both.ensures.front c.both.ensures.back)
