use Rattle.std.proofs.Common.{◌≡◌, ◌++◌, take}
use Rattle.icet_multi.specs.Direct.{sendings}
use Rattle.icet_multi.proofs.direct.push_sendings.Given as goal

abbrev pub invariant-loop-t : goal.invariant-loop-t
invariant-loop-t l = l.ops.items ≡ l.fn.ops.items ++ sendings 0 (take l.t l.tiles) l.rank
