-- The order of the tiles doesn't matter to what they show, and where nothing is drawn there are no spans.
use Rattle.std.proofs.Common.{◌≡◌, ℕ, zero, suc, ◌+◌, ◌<◌, ◌≤◌, Bool, true, false, cond, List, [], ◌∷◌, ◌++◌, length, map, get_or, replicate, None, refl, sym, ap, ◌∙◌, subst, arith}
use Rattle.std.specs.Prelude.{All, unsigned_abs}
use Rattle.std.specs.List.{flat_map, list_any, range_with_len}
use Rattle.std.specs.List.Sorted.{IsNonDecreasingBy, IsPermutation}
use Rattle.std.proofs.lemmas.List.{length-map, map-id}
use Rattle.std.proofs.lemmas.List.Sorted.{All-permutation, IsPermutation-sym, list_any-IsPermutation}
use Rattle.icet_model.specs.declared.names.Mode.{Mode}
use Rattle.icet_model.specs.declared.names.Rect.{Rect}
use Rattle.icet_model.specs.Pixel.{Pixel}
use Rattle.icet_model.specs.Tiles.{Area, area_of}
use Rattle.icet_raster.proofs.FullImages.{blanks}
use Rattle.icet_scene_model.specs.Jobs.{shapes_of}
use Rattle.icet_scene_model.specs.Raster.{Drawing, drawn}
use Rattle.icet_scene_model.specs.Ready.{areas_of, bottom_end, holds_pixel, rank_spans, ready_shapes, right_end, row_spans, shown, shown_row, stretch_span, stretches}
use Rattle.icet_scene_model.specs.Scene.{Placed, SceneView}
use Rattle.icet_upgrade.specs.TileImages.{AreInOrder, IsTileImage, tile_areas}
use Rattle.icet_upgrade.specs.declared.tile_image.TileImage.{TileImage}
use Rattle.icet_upgrade.proofs.Ends.{bottom_holds, bottom_within, right_holds, right_within}
use Rattle.icet_upgrade.proofs.Runs.{blank_only}

both_ways : (m n : ℕ) → m ≤ n → n ≤ m → m ≡ n
both_ways m n l k = omega (arith, l, k)

right_most : (xs ys : List Area) → IsPermutation xs ys → right_end xs ≤ right_end ys
right_most xs ys p =
    let holds : All (λ (a : Area). a.x + a.w ≤ right_end ys) ys = subst (λ (cs : List Area). All (λ (a : Area). a.x + a.w ≤ right_end cs) ys) (map-id ys) (right_holds (λ (a : Area). a) ys) in
    right_within xs (right_end ys) (All-permutation (λ (a : Area). a.x + a.w ≤ right_end ys) ys xs (IsPermutation-sym xs ys p) holds)

bottom_most : (xs ys : List Area) → IsPermutation xs ys → bottom_end xs ≤ bottom_end ys
bottom_most xs ys p =
    let holds : All (λ (a : Area). a.y + a.h ≤ bottom_end ys) ys = subst (λ (cs : List Area). All (λ (a : Area). a.y + a.h ≤ bottom_end cs) ys) (map-id ys) (bottom_holds (λ (a : Area). a) ys) in
    bottom_within xs (bottom_end ys) (All-permutation (λ (a : Area). a.y + a.h ≤ bottom_end ys) ys xs (IsPermutation-sym xs ys p) holds)

right_same : (xs ys : List Area) → IsPermutation xs ys → right_end xs ≡ right_end ys
right_same xs ys p = both_ways (right_end xs) (right_end ys) (right_most xs ys p) (right_most ys xs (IsPermutation-sym xs ys p))

pub bottom_same : (xs ys : List Area) → IsPermutation xs ys → bottom_end xs ≡ bottom_end ys
bottom_same xs ys p = both_ways (bottom_end xs) (bottom_end ys) (bottom_most xs ys p) (bottom_most ys xs (IsPermutation-sym xs ys p))

module _ (xs ys : List Area) (p : IsPermutation xs ys) (mode : Mode) where
  shown_same : (shapes : List Drawing) (y x : ℕ) → shown mode xs shapes y x ≡ shown mode ys shapes y x
  shown_same shapes y x = ap (λ b. cond b (drawn mode shapes x y) None) (list_any-IsPermutation (holds_pixel x y) xs ys p)

  row_same : (shapes : List Drawing) (y : ℕ) → shown_row mode xs shapes y ≡ shown_row mode ys shapes y
  row_same shapes y = λ i. map (λ x. shown_same shapes y x i) (range_with_len 0 (right_same xs ys p i))

  rank_same : (shapes : List Drawing) (rank : ℕ) → rank_spans mode xs shapes rank ≡ rank_spans mode ys shapes rank
  rank_same shapes rank = λ i. flat_map (λ y. map (stretch_span rank y) (stretches 0 (row_same shapes y i))) (range_with_len 0 (bottom_same xs ys p i))

-- the spans by tiles in another order
pub ready_by : (scene : SceneView) (xs : List Area) → IsPermutation (areas_of scene) xs → ready_shapes scene ≡ flat_map (λ rank. rank_spans scene.mode xs (shapes_of scene.shapes rank) rank) (range_with_len 0 scene.ranks)
unfolding ready_shapes
ready_by scene xs p = λ i. flat_map (λ rank. rank_same (areas_of scene) xs p scene.mode (shapes_of scene.shapes rank) rank i) (range_with_len 0 scene.ranks)

-- ---- nothing is drawn
either_none : (b : Bool) → cond {A = Pixel} b None None ≡ None
either_none true = refl
either_none false = refl

no_rows : (f : ℕ → List Placed) → ((y : ℕ) → f y ≡ []) → (a n : ℕ) → flat_map f (range_with_len a n) ≡ []
no_rows f h a zero = refl
no_rows f h a (suc n) = ap (λ ps. ps ++ flat_map f (range_with_len (a + 1) n)) (h a) ∙ no_rows f h (a + 1) n

pub nothing_drawn : (mode : Mode) (areas : List Area) (rank : ℕ) → rank_spans mode areas [] rank ≡ []
nothing_drawn mode areas rank = no_rows (row_spans mode areas [] rank) (λ y.
    let blank : shown_row mode areas [] y ≡ replicate (right_end areas) None =
    (λ i. map (λ x. either_none (list_any (holds_pixel x y) areas) i) (range_with_len 0 (right_end areas))) ∙ sym (blanks None 0 (right_end areas)) in
    ap (λ ps. map (stretch_span rank y) (stretches 0 ps)) blank ∙ ap (map (stretch_span rank y)) (blank_only (right_end areas) 0)) 0 (bottom_end areas)

-- ---- tiles of areas
pub at_mapped : {X Y : Type 0} (f : X → Y) (xs : List X) (i : ℕ) (d : X) → get_or (map f xs) i (f d) ≡ f (get_or xs i d)
at_mapped f [] i d = refl
at_mapped f (x ∷ xs) zero d = refl
at_mapped f (x ∷ xs) (suc i) d = at_mapped f xs i d

twice_mapped : {X Y Z : Type 0} (g : Y → Z) (f : X → Y) (xs : List X) → map g (map f xs) ≡ map (λ x. g (f x)) xs
twice_mapped g f [] = refl
twice_mapped g f (x ∷ xs) = ap (λ ys. g (f x) ∷ ys) (twice_mapped g f xs)

pub tiles_ordered : (tiles : List TileImage) (areas : List Rect) → map (λ (tile : TileImage). tile.area) tiles ≡ areas → All IsTileImage tiles → IsNonDecreasingBy (λ (area : Rect). unsigned_abs area.x) areas → AreInOrder tiles
tiles_ordered tiles areas e each h = record {
  each = each;
  order = λ i j d l m.
      let below = subst (IsNonDecreasingBy (λ (area : Rect). unsigned_abs area.x)) (sym e) h i j d.area l (omega (arith, m, length-map tiles (λ (tile : TileImage). tile.area))) in
      let first = ap (λ (area : Rect). unsigned_abs area.x) (at_mapped (λ (tile : TileImage). tile.area) tiles i d) in
      let second = ap (λ (area : Rect). unsigned_abs area.x) (at_mapped (λ (tile : TileImage). tile.area) tiles j d) in
      omega (arith, below, first, second);
}

pub areas_same : (tiles : List TileImage) (areas : List Rect) → map (λ (tile : TileImage). tile.area) tiles ≡ areas → tile_areas tiles ≡ map area_of areas
areas_same tiles areas e = sym (twice_mapped area_of (λ (tile : TileImage). tile.area) tiles) ∙ ap (map area_of) e
