use Rattle.std.proofs.Common.{[], map}
use Rattle.std.specs.List.{flat_map, range_with_len}
use Rattle.icet_model.specs.Tiles.{area_of}
use Rattle.icet_scene_model.specs.Jobs.{shapes_of}
use Rattle.icet_scene_model.specs.Ready.{rank_spans}
use Rattle.icet_upgrade.specs.Scans.{Adds}
use Rattle.icet_upgrade.proofs.ready.all_spans.Given as goal

abbrev pub invariant-loop-rank : goal.invariant-loop-rank
invariant-loop-rank l = Adds [] l.spans.items (flat_map (λ rank. rank_spans l.scene.mode (map area_of l.areas.items) (shapes_of l.scene.shapes rank) rank) (range_with_len 0 l.rank))
