use Rattle.std.proofs.Common.{length, map, arith}
use Rattle.std.proofs.lemmas.List.{length-map}
use Rattle.std.proofs.lemmas.List.Elements.{All-push, All-same}
use Rattle.std.proofs.lemmas.Option.{slice_get_within}
use Rattle.icet_model.specs.Tiles.{IsTileArea, TileView, area_of}
use Rattle.icet_upgrade.proofs.RowParts.{more_mapped, seen_area}
use Rattle.icet_upgrade.proofs.ready.areas_of.Goals as goal

pub loop-t-preserved : goal.loop-t-preserved
loop-t-preserved c =
    let layout = c.args.layout.now in
    let inside = slice_get_within layout c.loop-t.t _ c.tile.ensures.tile in (
      All-same IsTileArea _ _ c.in_ok-push.ensures.items (All-push IsTileArea _ _ c.loop-t.invariant.0 c.tile.ensures.area),
      more_mapped area_of _ _ _ (map (λ (t : TileView). t.area) layout) c.loop-t.t _ c.in_ok-push.ensures.items c.loop-t.invariant.1 (seen_area layout c.loop-t.t _ c.tile.ensures.tile) (omega (arith, inside, length-map layout (λ (t : TileView). t.area))),
    )
