use Rattle.std.proofs.Common.{take, Ok}
use Rattle.std.specs.List.{flat_map}
use Rattle.icet_base.specs.PenText.{Puts}
use Rattle.icet_scene_model.specs.Printed.{spaced}
use Rattle.icet_scene_text.proofs.numbers.put_numbers.Given as goal

abbrev pub invariant-loop-number : goal.invariant-loop-number
invariant-loop-number g l = Puts g.K.Sink.told l.initial.pen l.pen (Ok tt) (flat_map spaced (take l.number-index l.numbers))
