use Rattle.std.proofs.Common.{◌≡◌, drop}
use Rattle.icet_scene_model.specs.SceneLines.{all_differ}
use Rattle.icet_scene.proofs.opening.all_differ.Given as goal

abbrev pub invariant-loop-i : goal.invariant-loop-i
invariant-loop-i l = all_differ l.numbers ≡ all_differ (drop l.i l.numbers)
