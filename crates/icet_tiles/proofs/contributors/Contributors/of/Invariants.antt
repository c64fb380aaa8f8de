use Rattle.std.proofs.Common.{◌≡◌, map, take}
use Rattle.icet_scene_model.specs.Boxes.{contributors}
use Rattle.icet_tiles.proofs.contributors.Contributors.of.Given as goal

abbrev pub invariant-loop-tile : goal.invariant-loop-tile
invariant-loop-tile l = map (λ ranks. ranks.items) l.lists.items ≡ map (λ tile. contributors l.boxes l.order tile.area) (take l.tile l.layout)
