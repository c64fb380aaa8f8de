use Rattle.icet_demo.proofs.Drawing.{HasDrawn}
use Rattle.icet_demo.proofs.scene.triangles.Given as goal

abbrev pub invariant-loop-i : goal.invariant-loop-i
invariant-loop-i l = HasDrawn l.seed l.i l.rng l.all.items
