use Rattle.std.proofs.Common.{take, length, Ok}
use Rattle.std.specs.List.{flat_map, range_with_len}
use Rattle.icet_model.specs.Exchange.{of_rank}
use Rattle.icet_model.specs.Plan.{plan_exchanges}
use Rattle.icet_base.specs.PenText.{Puts}
use Rattle.icet_plan_text.specs.PlanTexts.{program_text}
use Rattle.icet_plan_text.proofs.plan.put_programs.Given as goal

abbrev pub invariant-loop-rank : goal.invariant-loop-rank
invariant-loop-rank g l =
    Puts g.K.Sink.told l.initial.pen l.pen (Ok tt) (flat_map (program_text (plan_exchanges l.plan)) (take l.rank (range_with_len 0 (length (plan_exchanges l.plan)))))
