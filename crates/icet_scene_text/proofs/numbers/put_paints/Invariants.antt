use Rattle.std.proofs.Common.{take, Ok}
use Rattle.std.specs.List.{flat_map}
use Rattle.icet_base.specs.PenText.{Puts}
use Rattle.icet_scene_model.specs.Printed.{paint_numbers, spaced}
use Rattle.icet_scene_text.proofs.numbers.put_paints.Given as goal

abbrev pub invariant-loop-paint : goal.invariant-loop-paint
invariant-loop-paint g l = Puts g.K.Sink.told l.initial.pen l.pen (Ok tt) (flat_map (λ paint. flat_map spaced (paint_numbers paint)) (take l.paint-index l.paints))
