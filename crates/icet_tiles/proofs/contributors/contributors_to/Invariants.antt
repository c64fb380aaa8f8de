use Rattle.std.proofs.Common.{◌≡◌, take}
use Rattle.icet_scene_model.specs.Boxes.{contributors}
use Rattle.icet_model.specs.Tiles.{area_of}
use Rattle.icet_tiles.proofs.contributors.contributors_to.Given as goal

abbrev pub invariant-loop-rank : goal.invariant-loop-rank
invariant-loop-rank l = l.ranks.items ≡ contributors l.boxes (take l.rank-index l.order) (area_of l.area)
