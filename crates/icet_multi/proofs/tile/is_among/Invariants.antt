use Rattle.std.proofs.Common.{◌≡◌, drop}
use Rattle.icet_multi.specs.Direct.{has}
use Rattle.icet_multi.proofs.tile.is_among.Given as goal

abbrev pub invariant-loop-other : goal.invariant-loop-other
invariant-loop-other l = has l.rank l.ranks ≡ has l.rank (drop l.other-index l.ranks)
