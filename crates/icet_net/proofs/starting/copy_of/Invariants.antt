use Rattle.std.proofs.Common.{◌≡◌, take}
use Rattle.icet_net.proofs.starting.copy_of.Given as goal

abbrev pub invariant-copying : goal.invariant-copying
invariant-copying l = l.ops.items ≡ take l.i l.program
