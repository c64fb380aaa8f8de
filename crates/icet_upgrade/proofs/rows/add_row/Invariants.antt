use Rattle.icet_upgrade.proofs.RowsLooked.{Looked}
use Rattle.icet_upgrade.proofs.rows.add_row.Given as goal

abbrev pub invariant-loop-tile : goal.invariant-loop-tile
invariant-loop-tile l = Looked l.tiles l.y l.tile-index l.initial.scan l.initial.spans.items l.scan l.spans.items
