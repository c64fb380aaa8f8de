use Rattle.std.proofs.Common.{take, length, Ok}
use Rattle.std.specs.List.{flat_map, range_with_len}
use Rattle.icet_model.specs.Exchange.{of_rank}
use Rattle.icet_model.specs.Plan.{plan_exchanges}
use Rattle.icet_base.specs.PenText.{Puts}
use Rattle.icet_plan_text.specs.PlanTexts.{sends_text}
use Rattle.icet_plan_text.proofs.traffic.put_sender.Given as goal

abbrev pub invariant-loop-to : goal.invariant-loop-to
invariant-loop-to g l =
    Puts g.K.Sink.told l.initial.pen l.pen (Ok tt) (flat_map (sends_text (plan_exchanges l.plan) l.from) (take l.to (range_with_len 0 (length (plan_exchanges l.plan)))))
