use Rattle.std.proofs.Common.{◌≡◌, length, map}
use Rattle.std.specs.List.{range_with_len}
use Rattle.icet_legs.specs.Task.{task_team}
use Rattle.icet_radixk.specs.Factors.{factor_at}
use Rattle.icet_radixk.specs.Radixk.{radix_program}
use Rattle.icet_radixk.proofs.programs.programs.Given as goal

abbrev pub invariant-loop-p : goal.invariant-loop-p
invariant-loop-p l = l.all.items ≡ map (radix_program (task_team l.fn.task) (factor_at l.fn.factors) (length l.fn.factors) l.fn.task.shows) (range_with_len 0 l.p)
