use Rattle.std.proofs.Common.{map}
use Rattle.std.proofs.lemmas.List.Elements.{All-push, All-same}
use Rattle.icet_raster.specs.Shapes.{drawing_of}
use Rattle.icet_upgrade.specs.TileImages.{IsTileImage, Shows}
use Rattle.icet_upgrade.specs.declared.tile_image.TileImage.{TileImage}
use Rattle.icet_upgrade.proofs.RowParts.{more_mapped}
use Rattle.icet_upgrade.proofs.ready.draw_tiles.Goals as goal

pub loop-area-preserved : goal.loop-area-preserved
loop-area-preserved c =
    let shows = Shows c.args.mode (map drawing_of c.args.shapes.now) in (
      more_mapped (λ (tile : TileImage). tile.area) _ _ _ c.args.areas.now c.loop-area.area-index _ c.in_ok-push.ensures.items c.loop-area.invariant.0 c.in_ok-draw.ensures.area c.loop-area-test.true,
      All-same IsTileImage _ _ c.in_ok-push.ensures.items (All-push IsTileImage _ _ c.loop-area.invariant.1 c.in_ok-draw.ensures.image),
      All-same shows _ _ c.in_ok-push.ensures.items (All-push shows _ _ c.loop-area.invariant.2 c.in_ok-draw.ensures.shows),
    )
