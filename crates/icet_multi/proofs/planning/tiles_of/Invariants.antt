use Rattle.std.proofs.Common.{◌≡◌, take}
use Rattle.icet_multi.specs.Strategies.{tile_ranks}
use Rattle.icet_multi.proofs.planning.tiles_of.Given as goal

abbrev pub invariant-loop-t : goal.invariant-loop-t
invariant-loop-t l = l.tiles.items ≡ tile_ranks (take l.t l.layout) l.who
