use Rattle.std.proofs.Common.{◌≡◌, take}
use Rattle.icet_legs.proofs.brackets.copies.Given as goal

abbrev pub invariant-loop-bracket : goal.invariant-loop-bracket
invariant-loop-bracket l = l.all.items ≡ take l.bracket-index l.brackets
