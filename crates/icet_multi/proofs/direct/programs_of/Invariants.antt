use Rattle.std.proofs.Common.{◌≡◌, map}
use Rattle.std.specs.List.{range_with_len}
use Rattle.icet_multi.specs.Direct.{direct_program}
use Rattle.icet_multi.proofs.direct.programs_of.Given as goal

abbrev pub invariant-loop-rank : goal.invariant-loop-rank
invariant-loop-rank l = l.all.items ≡ map (direct_program l.tiles) (range_with_len 0 l.rank)
