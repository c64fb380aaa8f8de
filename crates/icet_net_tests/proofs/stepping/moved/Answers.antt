use Rattle.icet_tests.proofs.Stepped.{both_go}
use Rattle.icet_net_tests.proofs.stepping.moved.Goals as goal

pub returns : goal.returns
returns g c =
    let cut = c.in_ok-back.ensures in
    let after = c.in_ok-front.ensures in
    both_go c.min-first.result c.args.ranks.items _ _ _ _ _ cut.items cut.tail c.in_ok-append.ensures.items after.front after.back
