use Rattle.std.proofs.Common.{◌≡◌, map}
use Rattle.std.specs.List.{range_with_len}
use Rattle.icet_multi.specs.Direct.{tile_bracket}
use Rattle.icet_multi.specs.Reduce.{block_tile}
use Rattle.icet_multi.proofs.legs.folds_of.Given as goal

abbrev pub invariant-loop-j : goal.invariant-loop-j
invariant-loop-j l = l.all.items ≡ map (λ j. tile_bracket (block_tile l.fn.tile l.fn.group j)) (range_with_len 0 l.j)
