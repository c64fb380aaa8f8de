use Rattle.icet_model.specs.Flow.{program, flow}
use Rattle.icet_plan.proofs.FlowIsOne.{flow_unique}
use Rattle.icet_plan.proofs.PlanFlows.{flow_is, matched_programs}
use Rattle.icet_plan.proofs.laws.one_flow.Goals as goal

pub returns-clause-flow : goal.returns-clause-flow
returns-clause-flow x = λ c programs m. flow_is c programs m

pub returns-clause-one : goal.returns-clause-one
returns-clause-one x = λ c programs ms m f. flow_unique c (program programs) (matched_programs programs m) ms (flow c programs) f (flow_is c programs m)
