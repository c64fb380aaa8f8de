use Rattle.std.proofs.Common.{◌≡◌}
use Rattle.icet_jobs.specs.Drawings.{empty_slots}
use Rattle.icet_jobs.proofs.drawing.empty_slots.Given as goal

abbrev pub invariant-loop-rank : goal.invariant-loop-rank
invariant-loop-rank l = l.slots.items ≡ empty_slots l.rank
