use Rattle.std.proofs.Common.{◌-◌, ◌≡◌, length}
use Rattle.icet_rank.specs.Machine.{IsReady}
use Rattle.icet_rank.specs.Steps.{Worked}
use Rattle.icet_rank.proofs.machine.RankMachine.do_local_work.Given as goal

abbrev pub invariant-loop-op : goal.invariant-loop-op
invariant-loop-op g l = record {
  worked : Worked l.fn.self l.self;
  at_once : IsReady l.fn.self → l.self ≡ l.fn.self;
}

abbrev pub decreases-loop-op : goal.decreases-loop-op
decreases-loop-op g l = length l.self.ops - l.self.place
