use Rattle.std.proofs.Common.{◌≡◌, ◌≤◌, drop, map, max}
use Rattle.icet_model.specs.Tiles.{area_of}
use Rattle.icet_scene_model.specs.Ready.{bottom_end}
use Rattle.icet_upgrade.proofs.ready.bottom_end.Given as goal

abbrev pub invariant-loop-area : goal.invariant-loop-area
invariant-loop-area l = (max l.end (bottom_end (map area_of (drop l.area-index l.areas))) ≡ bottom_end (map area_of l.areas)) × (l.end ≤ 16384)
