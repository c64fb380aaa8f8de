use Rattle.icet_net.proofs.TurnSteps.{goes_on_trans}
use Rattle.icet_tests.proofs.stepping.step_often.Goals as goal

pub returns-in_err-step_once : goal.returns-in_err-step_once
returns-in_err-step_once g c = goes_on_trans c.args.rank.now c.stepping.rank c.step_once.new.rank c.stepping.invariant c.step_once.ensures

pub stepping-preserved : goal.stepping-preserved
stepping-preserved g c = goes_on_trans c.args.rank.now c.stepping.rank c.step_once.new.rank c.stepping.invariant c.step_once.ensures
