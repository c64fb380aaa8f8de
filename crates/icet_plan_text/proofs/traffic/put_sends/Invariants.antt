use Rattle.std.proofs.Common.{take, length, Ok}
use Rattle.std.specs.List.{flat_map, range_with_len}
use Rattle.icet_model.specs.Exchange.{of_rank}
use Rattle.icet_model.specs.Plan.{plan_exchanges}
use Rattle.icet_base.specs.PenText.{Puts}
use Rattle.icet_plan_text.specs.PlanTexts.{send_text}
use Rattle.icet_plan_text.proofs.traffic.put_sends.Given as goal

abbrev pub invariant-loop-i : goal.invariant-loop-i
invariant-loop-i g l =
    Puts g.K.Sink.told l.initial.pen l.pen (Ok tt) (flat_map (send_text l.from l.to) (take l.i (of_rank (plan_exchanges l.plan) l.from)))
