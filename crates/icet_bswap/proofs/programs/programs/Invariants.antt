use Rattle.std.proofs.Common.{◌≡◌, map}
use Rattle.std.specs.List.{range_with_len}
use Rattle.icet_legs.specs.Task.{task_team}
use Rattle.icet_bswap.specs.Bswap.{leg_ops}
use Rattle.icet_bswap.proofs.programs.programs.Given as goal

abbrev pub invariant-loop-p : goal.invariant-loop-p
invariant-loop-p l = l.all.items ≡ map (leg_ops (task_team l.fn.task) l.fn.split.m l.fn.split.e l.fn.task.shows) (range_with_len 0 l.p)
