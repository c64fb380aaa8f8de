use Rattle.icet_model.proofs.Tries.{enabled, moved, stalled, none_left, finished, beyond, absent}
use Rattle.icet_model.proofs.laws.outcomes.Goals as goal

pub returns : goal.returns
returns c = λ all cap done r. record {
  enabled = enabled all cap done r;
  moved = moved all cap done r;
  stalled = stalled all cap done r;
  none_left = none_left all cap done r;
  finished = finished all cap done r;
  beyond = beyond all cap done r;
  absent = absent all cap done r;
}
