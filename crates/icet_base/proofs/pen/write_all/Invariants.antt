use Rattle.std.proofs.Common.{◌-◌, length}
use Rattle.icet_base.specs.PenText.{Writing}
use Rattle.icet_base.proofs.pen.write_all.Given as goal

abbrev pub invariant-loop-at : goal.invariant-loop-at
invariant-loop-at g l = Writing (g.K.Sink.told l.initial.sink) (g.K.Sink.told l.sink) l.piece l.at

abbrev pub decreases-loop-at : goal.decreases-loop-at
decreases-loop-at g l = length l.piece - l.at
