use Rattle.std.proofs.Common.{take, Ok}
use Rattle.icet_base.specs.PenText.{Puts}
use Rattle.icet_jobs.specs.Texts.{pictures_text}
use Rattle.icet_jobs.proofs.pictures.put_pictures.Given as goal

abbrev pub invariant-loop-picture : goal.invariant-loop-picture
invariant-loop-picture g l =
    Puts g.K.Sink.told l.initial.pen l.pen (Ok tt) (pictures_text l.wide l.mode l.background (take l.picture-index l.pictures))
