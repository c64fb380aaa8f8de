use Rattle.std.proofs.Common.{take, Ok}
use Rattle.std.specs.List.{flat_map}
use Rattle.icet_base.specs.PenText.{Puts}
use Rattle.icet_scene_model.specs.Printed.{natural, spaced}
use Rattle.icet_scene_text.proofs.numbers.put_ranks.Given as goal

abbrev pub invariant-loop-rank : goal.invariant-loop-rank
invariant-loop-rank g l = Puts g.K.Sink.told l.initial.pen l.pen (Ok tt) (flat_map (λ rank. spaced (natural rank)) (take l.rank-index l.ranks))
