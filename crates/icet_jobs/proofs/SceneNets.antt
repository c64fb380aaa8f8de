-- A scene's order, contributors and images are what a plan and a net are opened with.
use Rattle.std.proofs.Common.{◌≡◌, ◌≢◌, ℕ, zero, suc, ◌+◌, ◌*◌, ◌<◌, ◌≤◌, List, [], ◌∷◌, map, length, get_or, Option, Some, None, refl, sym, ap, ◌∙◌, subst, arith}
use Rattle.std.specs.Prelude.{All, AllPairs, slice_get}
use Rattle.std.specs.List.{range_with_len, sum_by, AllByRecursion}
use Rattle.std.proofs.lemmas.List.{length-map}
use Rattle.std.proofs.lemmas.List.FromFn.{length-range_with_len}
use Rattle.std.proofs.lemmas.List.Elements.{All-nil, All-cons}
use Rattle.std.proofs.lemmas.List.Kept.{AllPairs-cons}
use Rattle.std.proofs.lemmas.List.Sums.{sum_by-cons}
use Rattle.std.proofs.Math.Nat.{suc-mul}
use Rattle.icet_model.specs.declared.names.Rect.{Rect}
use Rattle.icet_scene_model.specs.Boxes.{reaches_into, contributors}
use Rattle.icet_model.specs.Plan.{PlanView}
use Rattle.icet_model.specs.Tiles.{TileView as AreaTile}
use Rattle.icet_scene_model.specs.Scene.{SceneView}
use Rattle.icet_tiles.specs.Contributors.{HasEachOnce}
use Rattle.icet_multi.specs.declared.settings.Settings.{Settings}
use Rattle.icet_multi.specs.Direct.{AreTiles, TileView}
use Rattle.icet_multi.proofs.Layouts.{are_tiles}
use Rattle.icet_multi.specs.Strategies.{KeepsOrder, tile_ranks}
use Rattle.icet_net.specs.Opening.{CanOpen}
use Rattle.icet_net.specs.Ranks.{AreWholeImages}
use Rattle.icet_scene.specs.Scenes.{IsLawfulScene}
use Rattle.icet_scene_model.specs.Jobs.{boxes_of}
use Rattle.icet_jobs.specs.Composites.{IsPlanFor, rank_image, rank_images, scene_tiles, who_of}
use Rattle.icet_jobs.proofs.SceneImages.{whole_images}
use Rattle.icet_jobs.proofs.ScenePictures.{IsOrdered}
use Rattle.icet_model.proofs.Lists.{no_pairs}
use Rattle.icet_model.specs.declared.limits.TheConstants.{MAX_RANK_PIXELS}

-- contributors keep the order
pub keep_order : (boxes : List (Option Rect)) (order : List ℕ) (tiles : List AreaTile) → All (KeepsOrder order) (map (λ tile. contributors boxes order tile.area) tiles)
keep_order boxes order [] = All-nil (KeepsOrder order)
keep_order boxes order (tile ∷ tiles) = All-cons (KeepsOrder order) _ _ (record { keeps = λ rank. reaches_into (get_or boxes rank None) tile.area; is = refl }) (keep_order boxes order tiles)

sizes_are : (f : AreaTile → List ℕ) (tiles : List AreaTile) → map (λ (x : TileView). x.size) (tile_ranks tiles (map f tiles)) ≡ map (λ tile. tile.area.w * tile.area.h) tiles
sizes_are f [] = refl
sizes_are f (tile ∷ tiles) = ap (λ ns. (tile.area.w * tile.area.h) ∷ ns) (sizes_are f tiles)

displays_are : (f : AreaTile → List ℕ) (tiles : List AreaTile) → map (λ (x : TileView). x.display) (tile_ranks tiles (map f tiles)) ≡ map (λ tile. tile.display) tiles
displays_are f [] = refl
displays_are f (tile ∷ tiles) = ap (λ ds. tile.display ∷ ds) (displays_are f tiles)

abbrev pixels_of : AreaTile → ℕ
pixels_of tile = tile.area.w * tile.area.h

each_small : (tiles : List AreaTile) (most : ℕ) → sum_by pixels_of tiles ≤ most → AllByRecursion (λ n. n ≤ most) (map pixels_of tiles)
each_small [] most l = tt
each_small (tile ∷ tiles) most l = let s = sum_by-cons pixels_of tile tiles in (omega (arith, s, l), each_small tiles most (omega (arith, s, l)))

at_least_once : (n s : ℕ) → 1 ≤ n → s ≤ n * s
at_least_once zero s l = absurd (omega arith)
at_least_once (suc n) s l = let h = suc-mul n s in omega (arith, h)

tiles_small : (scene : SceneView) → IsLawfulScene scene → AllByRecursion (λ n. n ≤ MAX_RANK_PIXELS) (map pixels_of scene.tiles)
tiles_small scene lawful = each_small scene.tiles MAX_RANK_PIXELS (let l = at_least_once scene.ranks (sum_by pixels_of scene.tiles) lawful.some in omega (arith, l, lawful.small))

small_in : (tiles : List AreaTile) (most t : ℕ) (tile : AreaTile) → AllByRecursion (λ n. n ≤ most) (map pixels_of tiles) → slice_get tiles t ≡ Some tile → pixels_of tile ≤ most
small_in [] most t tile a e = absurd cc
small_in (x ∷ tiles) most zero tile a e = subst (λ (y : AreaTile). pixels_of y ≤ most) (let h : x ≡ tile = cc in h) a.0
small_in (x ∷ tiles) most (suc t) tile a e = small_in tiles most t tile a.1 e

-- no tile of a scene has more pixels than all ranks' images may have
pub tile_small : (scene : SceneView) (t : ℕ) (tile : AreaTile) → IsLawfulScene scene → slice_get scene.tiles t ≡ Some tile → tile.area.w * tile.area.h ≤ MAX_RANK_PIXELS
tile_small scene t tile lawful e = small_in scene.tiles MAX_RANK_PIXELS t tile (tiles_small scene lawful) e

pub can_open : (settings : Settings) (strands : ℕ) (scene : SceneView) (plan : PlanView) → 1 ≤ strands → IsLawfulScene scene → length scene.order ≡ scene.ranks → IsPlanFor settings scene plan → CanOpen plan scene.tiles (rank_images strands scene)
can_open settings strands scene plan some lawful many is =
    let sizes = sym (is.sizes ∙ sizes_are (λ tile. contributors (boxes_of scene) scene.order tile.area) scene.tiles) in
    record {
      sizes = sizes;
      displays = sym (is.displays ∙ displays_are (λ tile. contributors (boxes_of scene) scene.order tile.area) scene.tiles);
      small = subst (AllByRecursion (λ n. n ≤ MAX_RANK_PIXELS)) sizes (tiles_small scene lawful);
      count = length-map (range_with_len 0 scene.ranks) (rank_image strands scene) ∙ length-range_with_len 0 scene.ranks ∙ sym (is.programs ∙ many);
      whole = subst (λ ns. AllByRecursion (AreWholeImages ns) (rank_images strands scene)) sizes (whole_images strands scene some);
    }

-- a scene's tiles are what strategies want
pub strategy_tiles : (scene : SceneView) → IsLawfulScene scene → AreTiles (length scene.order) (scene_tiles scene)
strategy_tiles scene lawful = subst (λ n. AreTiles n (scene_tiles scene)) (sym lawful.each.count) (are_tiles scene.ranks scene.order scene.tiles (who_of scene) lawful.each lawful.displays (keep_order (boxes_of scene) scene.order scene.tiles) lawful.layout)

-- a scene's order
pub ordered : (scene : SceneView) → IsLawfulScene scene → IsOrdered scene
ordered scene lawful = record { ascending = lawful.ascending; once = lawful.each }
