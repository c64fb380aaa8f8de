use Rattle.icet_legs.specs.InRow.{HasTiles}
use Rattle.icet_legs.proofs.row.drafts_of.Given as goal

abbrev pub invariant-loop-t : goal.invariant-loop-t
invariant-loop-t l = HasTiles l.fn.ranks l.fn.legs l.t l.drafts.items
