use Rattle.std.proofs.Common.{take, length, Ok}
use Rattle.std.specs.List.{flat_map, range_with_len}
use Rattle.icet_model.specs.Exchange.{of_rank}
use Rattle.icet_model.specs.Plan.{plan_exchanges}
use Rattle.icet_base.specs.PenText.{Puts}
use Rattle.icet_plan_text.specs.PlanTexts.{sender_text}
use Rattle.icet_plan_text.proofs.traffic.put_traffic.Given as goal

abbrev pub invariant-loop-from : goal.invariant-loop-from
invariant-loop-from g l =
    Puts g.K.Sink.told l.initial.pen l.pen (Ok tt) (flat_map (sender_text (plan_exchanges l.plan)) (take l.from (range_with_len 0 (length (plan_exchanges l.plan)))))
