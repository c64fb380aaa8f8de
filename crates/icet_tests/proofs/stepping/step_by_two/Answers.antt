use Rattle.std.proofs.lemmas.Result.{IfOk-at_ok}
use Rattle.icet_net.specs.Ranks.{GoesOn}
use Rattle.icet_workers.specs.Shares.{EachDoes}
use Rattle.icet_tests.proofs.Stepped.{both_go}
use Rattle.icet_tests.proofs.stepping.step_by_two.Goals as goal

pub returns : goal.returns
returns g c =
    let cut = c.in_ok-back.ensures in
    both_go c.args.first c.args.ranks.items _ _ _ _ _ cut.items cut.tail c.in_ok-append.ensures.items
    (IfOk-at_ok (λ v. EachDoes GoesOn _ v.items) c.in_ok-all.was c.join-one.ensures.first)
    (IfOk-at_ok (λ v. EachDoes GoesOn _ v.items) c.in_ok-others.was c.join-one.ensures.second)
