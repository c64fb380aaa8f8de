use Rattle.icet_plan.proofs.TwoEvents.{stays_enabled, same_state}
use Rattle.icet_plan.proofs.laws.stays_enabled.Goals as goal

pub returns-clause-stays : goal.returns-clause-stays
returns-clause-stays c = stays_enabled

pub returns-clause-same : goal.returns-clause-same
returns-clause-same c = same_state
