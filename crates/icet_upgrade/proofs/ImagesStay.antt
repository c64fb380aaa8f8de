-- The images of a scene stay where its shapes are ready drawn.
use Rattle.std.proofs.Common.{◌≡◌, ℕ, ◌+◌, ◌*◌, ◌/◌, ◌%◌, ◌<◌, ◌≤◌, Bool, true, List, map, refl, sym, ap, ◌∙◌, arith}
use Rattle.std.specs.Prelude.{◌&&◌, nat_le, nat_lt, All, slice_index_or}
use Rattle.std.specs.List.{Contains, list_any, range_with_len}
use Rattle.std.proofs.lemmas.Bool.Decides.{nat_tests}
use Rattle.std.proofs.lemmas.List.Elements.{All-contains, All-map}
use Rattle.std.proofs.lemmas.List.Folds.{list_any_at}
use Rattle.std.proofs.lemmas.Nat.{div_below, mod_below}
use Rattle.icet_model.specs.Pixel.{Pixel}
use Rattle.icet_model.specs.Tiles.{Area, IsOnDisplay, TileView}
use Rattle.icet_raster.proofs.FullImages.{map_same}
use Rattle.icet_scene.specs.Scenes.{IsLawfulScene}
use Rattle.icet_scene_model.specs.Jobs.{shapes_of}
use Rattle.icet_scene_model.specs.Raster.{drawn, full_image}
use Rattle.icet_scene_model.specs.Ready.{areas_of, bottom_end, holds_pixel, rank_spans, ready_scene, ready_shapes, right_end, row_spans, shown_row, stretch_span, stretches}
use Rattle.icet_scene_model.specs.Scene.{Placed, SceneView}
use Rattle.icet_upgrade.proofs.DrawnSpans.{spans-drawn}
use Rattle.icet_upgrade.proofs.Ends.{all_ranged, any_mapped, bottom_holds, right_holds}
use Rattle.icet_upgrade.proofs.RankShapes.{shapes_picked}

pub holds : (area : Area) (x y : ℕ) → area.x ≤ x → x < area.x + area.w → area.y ≤ y → y < area.y + area.h → holds_pixel x y area ≡ true
holds area x y a b c d = grind (arith, nat_tests, a, b, c, d)

pub of_rank : (scene : SceneView) (rank : ℕ) → All (λ (placed : Placed). placed.rank ≡ rank) (rank_spans scene.mode (areas_of scene) (shapes_of scene.shapes rank) rank)
of_rank scene rank =
    let shapes = shapes_of scene.shapes rank in
    all_ranged (λ (placed : Placed). placed.rank ≡ rank) (row_spans scene.mode (areas_of scene) shapes rank) 0 (bottom_end (areas_of scene)) (λ y l m.
    All-map (λ (placed : Placed). placed.rank ≡ rank) (stretch_span rank y) (stretches 0 (shown_row scene.mode (areas_of scene) shapes y)) (λ k d n. refl))

ready_of : (scene : SceneView) (rank : ℕ) → rank < scene.ranks → shapes_of (ready_shapes scene) rank ≡ map (λ (placed : Placed). placed.shape) (rank_spans scene.mode (areas_of scene) (shapes_of scene.shapes rank) rank)
unfolding ready_shapes
ready_of scene rank l = shapes_picked (λ r. rank_spans scene.mode (areas_of scene) (shapes_of scene.shapes r) r) (of_rank scene) scene.ranks rank l

module _ (scene : SceneView) (rank : ℕ) (tile : TileView) (h : IsLawfulScene scene) (l : rank < scene.ranks) (c : Contains scene.tiles tile) where
  at_pixel : (x y : ℕ) → tile.area.x ≤ x → x < tile.area.x + tile.area.w → tile.area.y ≤ y → y < tile.area.y + tile.area.h
      → drawn scene.mode (shapes_of (ready_shapes scene) rank) x y ≡ drawn scene.mode (shapes_of scene.shapes rank) x y
  at_pixel x y p q r s =
      let right = All-contains (λ (t : TileView). t.area.x + t.area.w ≤ right_end (areas_of scene)) scene.tiles tile (right_holds (λ (t : TileView). t.area) scene.tiles) c in
      let bottom = All-contains (λ (t : TileView). t.area.y + t.area.h ≤ bottom_end (areas_of scene)) scene.tiles tile (bottom_holds (λ (t : TileView). t.area) scene.tiles) c in
      let held = holds tile.area x y p q r s in
      let shows : list_any (holds_pixel x y) (areas_of scene) ≡ true =
      any_mapped (holds_pixel x y) (λ (t : TileView). t.area) scene.tiles
      ∙ list_any_at (λ (t : TileView). holds_pixel x y t.area) scene.tiles c.0 tile c.1 (ap (λ (t : TileView). holds_pixel x y t.area) c.2 ∙ held) in
      ap (λ shapes. drawn scene.mode shapes x y) (ready_of scene rank l)
      ∙ spans-drawn scene.mode (areas_of scene) (shapes_of scene.shapes rank) rank y x (omega (arith, q, right)) (omega (arith, s, bottom)) shows

  at_place : (k : ℕ) → k < tile.area.w * tile.area.h
      → drawn scene.mode (shapes_of (ready_shapes scene) rank) (tile.area.x + k % tile.area.w) (tile.area.y + k / tile.area.w) ≡ drawn scene.mode (shapes_of scene.shapes rank) (tile.area.x + k % tile.area.w) (tile.area.y + k / tile.area.w)
  at_place k m =
      let inside = All-contains (λ (t : TileView). IsOnDisplay t.area) scene.tiles tile h.layout.inside c in
      let some : 0 < tile.area.w = omega (arith, inside.w) in
      let column = mod_below k tile.area.w some in
      let row = div_below k tile.area.w tile.area.h some (omega (arith, m)) in
      at_pixel (tile.area.x + k % tile.area.w) (tile.area.y + k / tile.area.w) (omega arith) (omega (arith, column)) (omega arith) (omega (arith, row))

  pub stays : full_image scene.mode (shapes_of (ready_shapes scene) rank) tile.area ≡ full_image scene.mode (shapes_of scene.shapes rank) tile.area
  stays = map_same (λ k. drawn scene.mode (shapes_of (ready_shapes scene) rank) (tile.area.x + k % tile.area.w) (tile.area.y + k / tile.area.w))
      (λ k. drawn scene.mode (shapes_of scene.shapes rank) (tile.area.x + k % tile.area.w) (tile.area.y + k / tile.area.w)) 0 (tile.area.w * tile.area.h) (λ k m. at_place (0 + k) (omega (arith, m)))
