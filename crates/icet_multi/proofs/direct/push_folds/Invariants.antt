use Rattle.std.proofs.Common.{◌≡◌, ◌++◌, ◌≤◌, take}
use Rattle.icet_multi.specs.Direct.{folds}
use Rattle.icet_multi.proofs.direct.push_folds.Given as goal

abbrev pub invariant-loop-i : goal.invariant-loop-i
invariant-loop-i l = record { first : 1 ≤ l.i; ranks : l.contributors ≡ l.fn.tile.contributors; grown : l.ops.items ≡ l.fn.ops.items ++ folds l.t l.fn.tile (take l.i l.fn.tile.contributors) }
