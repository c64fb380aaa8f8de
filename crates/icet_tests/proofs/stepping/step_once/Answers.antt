use Rattle.icet_tests.proofs.Stepped.{step_goes}
use Rattle.icet_tests.proofs.stepping.step_once.Goals as goal

pub returns : goal.returns
returns g c =
    let e = c.in_ok-step.ensures in
    step_goes e.job e.pairings c.in_ok-step.field-0 e.moved e.pending e.done
