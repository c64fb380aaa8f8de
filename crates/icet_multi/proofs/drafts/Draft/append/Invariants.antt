use Rattle.std.proofs.Common.{◌≡◌, ◌++◌, take}
use Rattle.icet_multi.proofs.drafts.Draft.append.Given as goal

abbrev pub invariant-loop-i : goal.invariant-loop-i
invariant-loop-i l = l.self-inside.ops.items ≡ l.fn.self ++ take l.i l.fn.program
