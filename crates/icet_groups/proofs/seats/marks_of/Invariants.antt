use Rattle.std.proofs.Common.{take}
use Rattle.icet_groups.specs.Seating.{AreMarks}
use Rattle.icet_groups.proofs.seats.marks_of.Given as goal

abbrev pub invariant-loop-rank : goal.invariant-loop-rank
invariant-loop-rank l = AreMarks l.ranks (take l.rank-index l.marked) l.marks.items
