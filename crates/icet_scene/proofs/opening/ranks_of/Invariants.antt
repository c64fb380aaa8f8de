use Rattle.std.proofs.Common.{◌≡◌, take}
use Rattle.icet_scene.proofs.opening.ranks_of.Given as goal

abbrev pub invariant-loop-number : goal.invariant-loop-number
invariant-loop-number l = l.ranks.items ≡ take l.number-index l.numbers
