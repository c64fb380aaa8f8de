use Rattle.icet_groups.specs.Scan.{AreScanned}
use Rattle.icet_groups.proofs.places.next_tile.Given as goal

abbrev pub invariant-loop-t : goal.invariant-loop-t
invariant-loop-t l = AreScanned l.counts l.places l.t l.best
