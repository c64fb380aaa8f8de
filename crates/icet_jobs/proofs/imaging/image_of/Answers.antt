use Rattle.std.proofs.Common.{◌≡◌, ◌∷◌, [], ◌++◌, map, length, Some, sym, ap, subst, ◌∙◌, arith, length-append}
use Rattle.std.specs.Prelude.{slice_get}
use Rattle.icet_model.specs.Tiles.{area_of}
use Rattle.icet_raster.specs.Shapes.{drawing_of}
use Rattle.icet_scene_model.specs.Scene.{SceneView}
use Rattle.icet_tiles.specs.Layouts.{tile_view}
use Rattle.icet_jobs.specs.Composites.{whole_piece}
use Rattle.icet_scene.specs.Scenes.{IsLawfulScene}
use Rattle.icet_jobs.proofs.SceneImages.{pieces_more}
use Rattle.icet_jobs.proofs.SceneNets.{tile_small}
use Rattle.icet_jobs.proofs.imaging.image_of.Goals as goal

pub loop-t-preserved : goal.loop-t-preserved
loop-t-preserved c =
    let scene = c.args.scene.now in
    let shapes = map drawing_of c.in_ok-shapes.shapes.items in
    let t = c.loop-t.t in
    let mode_is = ap (λ (v : SceneView). v.mode) c.scene.view_is in
    let tile_at = ap (λ (v : SceneView). slice_get v.tiles t) (sym c.scene.view_is) ∙ c.tile.ensures.tile in
    let shapes_are = c.as_slice.ensures.value in
    let part : c.in_ok-part_of.field-0 ≡ whole_piece c.args.strands scene.mode shapes (area_of c.tile.result.area) t = c.in_ok-part_of.ensures ∙ (λ j. whole_piece c.args.strands (mode_is j) (map drawing_of (shapes_are j)) (area_of c.tile.result.area) t) in (
      c.in_ok-push.ensures.items ∙ ((λ j. c.loop-t.invariant.0 j ++ part j ∷ []) ∙ sym (pieces_more c.args.strands scene.mode shapes scene.tiles t (tile_view c.tile.result) tile_at)),
      omega (arith, ap length c.in_ok-push.ensures.items, length-append c.loop-t.parts.items (c.in_ok-part_of.field-0 ∷ []), c.loop-t.invariant.1),
    )

pub part_of-requires-clause-small : goal.part_of-requires-clause-small
part_of-requires-clause-small c = tile_small c.args.scene.now c.loop-t.t (tile_view c.tile.result) (subst IsLawfulScene c.scene.view_is c.scene.invariant.0) (ap (λ (v : SceneView). slice_get v.tiles c.loop-t.t) (sym c.scene.view_is) ∙ c.tile.ensures.tile)
