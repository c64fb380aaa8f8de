use Rattle.icet_bswap.specs.Split.{AreFinals}
use Rattle.icet_bswap.proofs.programs.finals_of.Given as goal

abbrev pub invariant-loop-p : goal.invariant-loop-p
invariant-loop-p l = AreFinals l.p l.fn.task.pixels l.fn.split l.all.items
