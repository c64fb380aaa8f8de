use Rattle.std.proofs.Common.{◌≡◌, map}
use Rattle.std.specs.List.{range_with_len}
use Rattle.icet_legs.specs.Task.{task_team}
use Rattle.icet_tree.specs.Tree.{tree_program}
use Rattle.icet_tree.proofs.exchange.programs_of.Given as goal

abbrev pub invariant-loop-p : goal.invariant-loop-p
invariant-loop-p l = l.all.items ≡ map (tree_program (task_team l.fn.task) l.fn.levels l.fn.task.shows) (range_with_len 0 l.p)
