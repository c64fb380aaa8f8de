use Rattle.std.proofs.Common.{◌≡◌, map}
use Rattle.std.specs.List.{range_with_len}
use Rattle.icet_scene_model.specs.Boxes.{box}
use Rattle.icet_scene_model.specs.Jobs.{shapes_of}
use Rattle.icet_jobs.proofs.planning.boxes_of.Given as goal

abbrev pub invariant-loop-rank : goal.invariant-loop-rank
invariant-loop-rank l = l.boxes.items ≡ map (λ rank. box (shapes_of l.scene.shapes rank)) (range_with_len 0 l.rank)
