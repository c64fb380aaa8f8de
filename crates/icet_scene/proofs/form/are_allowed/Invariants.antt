use Rattle.std.proofs.Common.{◌≡◌, take}
use Rattle.std.specs.Prelude.{not}
use Rattle.std.specs.List.{list_all}
use Rattle.icet_scene_model.specs.SceneLines.{is_allowed}
use Rattle.icet_scene.proofs.form.are_allowed.Given as goal

abbrev pub invariant-loop-byte : goal.invariant-loop-byte
invariant-loop-byte l = not l.has_other ≡ list_all is_allowed (take l.byte-index l.line)
