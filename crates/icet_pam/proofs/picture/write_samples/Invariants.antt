use Rattle.std.proofs.Common.{take, Ok}
use Rattle.icet_scene_model.specs.Picture.{pixels_bytes}
use Rattle.icet_base.specs.PenText.{Puts}
use Rattle.icet_pam.proofs.picture.write_samples.Given as goal

abbrev pub invariant-loop-pixel : goal.invariant-loop-pixel
invariant-loop-pixel g l =
    Puts g.K.Sink.told l.initial.pen l.pen (Ok tt) (pixels_bytes l.wide l.mode l.background (take l.pixel-index l.pixels))
