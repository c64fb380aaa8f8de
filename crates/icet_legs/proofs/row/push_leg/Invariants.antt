use Rattle.std.proofs.Common.{length}
use Rattle.icet_legs.specs.InRow.{HasGrown}
use Rattle.icet_legs.proofs.row.push_leg.Given as goal

abbrev pub invariant-loop-p : goal.invariant-loop-p
invariant-loop-p l = HasGrown (length l.fn.drafts.items) l.fn.t l.p l.fn.leg l.fn.drafts.items l.drafts.items
