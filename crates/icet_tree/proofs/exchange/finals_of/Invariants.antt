use Rattle.icet_tree.specs.Ranges.{AreTreeRanges}
use Rattle.icet_tree.proofs.exchange.finals_of.Given as goal

abbrev pub invariant-loop-p : goal.invariant-loop-p
invariant-loop-p l = AreTreeRanges l.p l.fn.task.pixels l.all.items
