use Rattle.std.proofs.Common.{◌≡◌, map}
use Rattle.std.specs.List.{range_with_len}
use Rattle.icet_jobs.specs.Composites.{rank_image}
use Rattle.icet_jobs.proofs.imaging.images_of.Given as goal

abbrev pub invariant-loop-rank : goal.invariant-loop-rank
invariant-loop-rank l = l.images.items ≡ map (rank_image l.strands l.scene) (range_with_len 0 l.rank)
