use Rattle.std.proofs.Common.{take, length, Ok}
use Rattle.std.specs.List.{flat_map, range_with_len}
use Rattle.icet_model.specs.Exchange.{of_rank}
use Rattle.icet_model.specs.Plan.{plan_exchanges}
use Rattle.icet_base.specs.PenText.{Puts}
use Rattle.icet_plan_text.specs.PlanTexts.{tile_text}
use Rattle.icet_plan_text.proofs.plan.put_tiles.Given as goal

abbrev pub invariant-loop-tile : goal.invariant-loop-tile
invariant-loop-tile g l =
    Puts g.K.Sink.told l.initial.pen l.pen (Ok tt) (flat_map (tile_text l.plan.brackets) (take l.tile (range_with_len 0 (length l.plan.brackets))))
