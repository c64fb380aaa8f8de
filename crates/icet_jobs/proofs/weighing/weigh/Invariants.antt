use Rattle.std.proofs.Common.{◌≡◌, ◌≤◌, ◌*◌, ◌^◌, take}
use Rattle.icet_jobs.specs.Weights.{images_weight}
use Rattle.icet_jobs.proofs.weighing.weigh.Given as goal

abbrev pub invariant-loop-image : goal.invariant-loop-image
invariant-loop-image l = (l.weight ≡ images_weight (take l.image-index l.images)) × (l.weight ≤ l.image-index * 2 ^ 42)
