use Rattle.icet_plan.proofs.PlanFlows.{pixel_flow_is_traffic}
use Rattle.icet_plan.proofs.laws.traffic_is_flow.Goals as goal

pub returns : goal.returns
returns x = pixel_flow_is_traffic
