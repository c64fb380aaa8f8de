use Rattle.icet_scene_model.specs.Ready.{row_spans}
use Rattle.icet_upgrade.specs.TileImages.{tile_areas}
use Rattle.icet_upgrade.proofs.Steps.{adds_more, adds_none}
use Rattle.icet_upgrade.proofs.rows.add_rows.Goals as goal

pub loop-y-init : goal.loop-y-init
loop-y-init c = λ mode shapes images. adds_none c.args.spans.now.items

pub loop-y-preserved : goal.loop-y-preserved
loop-y-preserved c = λ mode shapes images.
    adds_more (row_spans mode (tile_areas c.args.tiles.now) shapes c.args.rank) c.loop-y.y c.args.spans.now.items _ _ (c.loop-y.invariant mode shapes images) (c.in_ok-add_row.ensures mode shapes images)
