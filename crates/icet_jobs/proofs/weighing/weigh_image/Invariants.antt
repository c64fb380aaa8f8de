use Rattle.std.proofs.Common.{◌≡◌, ◌≤◌, ◌*◌, ◌^◌, take}
use Rattle.icet_jobs.specs.Weights.{image_weight}
use Rattle.icet_jobs.proofs.weighing.weigh_image.Given as goal

abbrev pub invariant-loop-t : goal.invariant-loop-t
invariant-loop-t l = (l.weight ≡ image_weight (take l.t l.image)) × (l.weight ≤ l.t * 2 ^ 36)
