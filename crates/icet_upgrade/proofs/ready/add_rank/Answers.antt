use Rattle.std.proofs.Common.{◌≡◌, ◌+◌, ◌≤◌, List, [], map, sym, ap, ◌∙◌, subst, arith, rules}
use Rattle.std.specs.Prelude.{All}
use Rattle.std.specs.List.{flat_map, range_with_len}
use Rattle.std.proofs.lemmas.Grind.{common_steps}
use Rattle.std.proofs.lemmas.List.Elements.{All-map}
use Rattle.icet_model.specs.Tiles.{Area, area_of}
use Rattle.icet_raster.specs.Shapes.{drawing_of}
use Rattle.icet_scene_model.specs.Raster.{Drawing}
use Rattle.icet_scene_model.specs.Ready.{rank_spans, row_spans}
use Rattle.icet_scene_model.specs.Scene.{SceneView}
use Rattle.icet_upgrade.specs.Scans.{Adds}
use Rattle.icet_upgrade.specs.TileImages.{AreInOrder, Shows, tile_areas}
use Rattle.icet_upgrade.proofs.Ends.{bottom_within}
use Rattle.icet_upgrade.proofs.Orders.{areas_same, nothing_drawn, tiles_ordered}
use Rattle.icet_upgrade.proofs.RowParts.{ok_then}
use Rattle.icet_upgrade.proofs.Steps.{adds_none}
use Rattle.icet_upgrade.proofs.ready.add_rank.Goals as goal

pub returns-then-is_empty : goal.returns-then-is_empty
returns-then-is_empty c =
    let spans = c.args.spans.now.items in
    let areas = map area_of c.args.areas.now in
    let empty : c.in_ok-shapes.shapes.items ≡ [] = first_of (search rules, grind (arith, common_steps)) in
    subst (Adds spans spans) (sym (ap (λ (ds : List Drawing). rank_spans c.args.scene.now.mode areas ds c.args.rank) (sym c.in_ok-shapes.ensures.shapes ∙ ap (map drawing_of) empty) ∙ nothing_drawn c.args.scene.now.mode areas c.args.rank)) (adds_none spans)

pub add_rows-requires-clause-tiles : goal.add_rows-requires-clause-tiles
add_rows-requires-clause-tiles c = subst AreInOrder (sym c.as_slice-2.ensures.value) (tiles_ordered _ c.args.areas.now c.in_ok-tiles.ensures.areas c.in_ok-tiles.ensures.images c.requires.order)

pub add_rows-requires-clause-rows : goal.add_rows-requires-clause-rows
add_rows-requires-clause-rows c =
    let within = bottom_within (map area_of c.args.areas.now) 16384 (All-map (λ (a : Area). a.y + a.h ≤ 16384) area_of c.args.areas.now (λ k d l. (c.requires.each k d l).display.bottom)) in
    omega (arith, c.requires.rows, within)

pub returns : goal.returns
returns c =
    let images = subst (All (Shows c.scene.inside.mode (map drawing_of c.as_slice.result.now))) (sym c.as_slice-2.ensures.value) c.in_ok-tiles.ensures.shows in
    let mode = ap (λ (v : SceneView). v.mode) c.scene.view_is in
    let areas = ap tile_areas c.as_slice-2.ensures.value ∙ areas_same _ c.args.areas.now c.in_ok-tiles.ensures.areas in
    let shapes = ap (map drawing_of) c.as_slice.ensures.value ∙ c.in_ok-shapes.ensures.shapes in
    ok_then c.add_rows.result c.add_rows.ensures (λ h.
    subst (Adds c.args.spans.now.items c.add_rows.new.spans.items) (λ i. flat_map (row_spans (mode i) (areas i) (shapes i) c.args.rank) (range_with_len 0 (c.requires.rows i))) (h _ _ images))
