use Rattle.icet_radixk.specs.Round.{AreFinals}
use Rattle.icet_radixk.proofs.programs.finals_of.Given as goal

abbrev pub invariant-loop-p : goal.invariant-loop-p
invariant-loop-p l = AreFinals l.p l.fn.task.pixels l.fn.factors l.all.items
