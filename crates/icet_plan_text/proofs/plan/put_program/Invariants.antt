use Rattle.std.proofs.Common.{take, length, Ok}
use Rattle.std.specs.List.{flat_map, range_with_len}
use Rattle.icet_model.specs.Exchange.{of_rank}
use Rattle.icet_model.specs.Plan.{plan_exchanges}
use Rattle.icet_base.specs.PenText.{Puts}
use Rattle.icet_plan_text.specs.PlanTexts.{exchange_line}
use Rattle.icet_plan_text.proofs.plan.put_program.Given as goal

abbrev pub invariant-loop-i : goal.invariant-loop-i
invariant-loop-i g l =
    Puts g.K.Sink.told l.initial.pen l.pen (Ok tt) (flat_map (exchange_line l.rank) (take l.i (of_rank (plan_exchanges l.plan) l.rank)))
