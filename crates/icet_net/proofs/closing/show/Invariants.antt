use Rattle.icet_net.specs.CloseSteps.{ShowsFirst}
use Rattle.icet_net.proofs.closing.show.Given as goal

abbrev pub invariant-placing : goal.invariant-placing
invariant-placing l = ShowsFirst l.tile l.i l.kept l.fn.canvas l.canvas
