use Rattle.std.proofs.Common.{List}
use Rattle.std.specs.Prelude.{All}
use Rattle.std.specs.List.{flat_map, range_with_len}
use Rattle.icet_model.specs.declared.names.Mode.{Mode}
use Rattle.icet_scene_model.specs.Raster.{Drawing}
use Rattle.icet_scene_model.specs.Ready.{row_spans}
use Rattle.icet_upgrade.specs.Scans.{Adds}
use Rattle.icet_upgrade.specs.TileImages.{Shows, tile_areas}
use Rattle.icet_upgrade.proofs.rows.add_rows.Given as goal

abbrev pub invariant-loop-y : goal.invariant-loop-y
invariant-loop-y l = (mode : Mode) (shapes : List Drawing) → All (Shows mode shapes) l.tiles → Adds l.initial.spans.items l.spans.items (flat_map (row_spans mode (tile_areas l.tiles) shapes l.rank) (range_with_len 0 l.y))
