use Rattle.std.proofs.Common.{drop}
use Rattle.icet_jobs.specs.Replays.{replay_of}
use Rattle.icet_jobs.proofs.ReplayLines.{HasPutOf}
use Rattle.icet_jobs.proofs.replay.put_tries.Given as goal

abbrev pub invariant-loop-rank : goal.invariant-loop-rank
invariant-loop-rank g l =
    HasPutOf g.K.Sink.told l.initial.pen l.pen (replay_of l.initial.core l.schedule) (replay_of l.core (drop l.rank-index l.schedule))
