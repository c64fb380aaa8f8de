use Rattle.icet_tiles.proofs.Displays.{AreApartBelow}
use Rattle.icet_tiles.proofs.layout.have_own_displays.Given as goal

abbrev pub invariant-loop-at : goal.invariant-loop-at
invariant-loop-at l = AreApartBelow l.tiles l.at
