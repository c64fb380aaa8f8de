-- The spans of a ready scene stand apart.
use Rattle.std.proofs.Common.{◌≡◌, ◌≢◌, ℕ, zero, suc, ◌+◌, ◌<◌, ◌≤◌, List, [], ◌∷◌, ◌++◌, map, get_or, refl, sym, ap, ◌∙◌, arith}
use Rattle.std.specs.Prelude.{All, AllPairs}
use Rattle.std.specs.List.{flat_map, range_with_len}
use Rattle.std.proofs.lemmas.List.Elements.{All-append, All-head, All-map, All-nil, All-tail}
use Rattle.std.proofs.lemmas.List.Kept.{AllPairs-cons}
use Rattle.icet_model.specs.declared.names.Mode.{Mode}
use Rattle.icet_model.specs.Tiles.{Area}
use Rattle.icet_scene_model.specs.Jobs.{shapes_of}
use Rattle.icet_scene_model.specs.Raster.{Drawing}
use Rattle.icet_scene_model.specs.Ready.{Stretch, areas_of, bottom_end, rank_spans, ready_shapes, row_spans, shown_row, stretch_span, stretches}
use Rattle.icet_scene_model.specs.Scene.{Placed, SceneView}
use Rattle.icet_upgrade.specs.Apart.{AreApart, StandApart}
use Rattle.icet_upgrade.proofs.Ends.{all_ranged}
use Rattle.icet_upgrade.proofs.ImagesStay.{of_rank}
use Rattle.icet_upgrade.proofs.Runs.{IsBefore, maximal}

module _ {X : Type 0} (R : X → X → Type 0) where
  first_pairs : (x : X) (xs : List X) → AllPairs R (x ∷ xs) → All (R x) xs
  first_pairs x xs h = λ k d l. h 0 (suc k) d (omega arith) (omega (arith, l))

  later_pairs : (x : X) (xs : List X) → AllPairs R (x ∷ xs) → AllPairs R xs
  later_pairs x xs h = λ i j d l m. h (suc i) (suc j) d (omega (arith, l)) (omega (arith, m))

  pairs_append : (xs ys : List X) → AllPairs R xs → AllPairs R ys → All (λ x. All (R x) ys) xs → AllPairs R (xs ++ ys)
  pairs_append [] ys h k c = k
  pairs_append (x ∷ xs) ys h k c =
      AllPairs-cons R x (xs ++ ys) (All-append (R x) xs ys (first_pairs x xs h) (All-head (λ (z : X). All (R z) ys) x xs c))
      (pairs_append xs ys (later_pairs x xs h) k (All-tail (λ (z : X). All (R z) ys) x xs c))

  -- lists that are put behind one another, by number
  pairs_ranged : (f : ℕ → List X) → ((i : ℕ) → AllPairs R (f i)) → ((i j : ℕ) → i < j → All (λ x. All (R x) (f j)) (f i)) → (a n : ℕ) → AllPairs R (flat_map f (range_with_len a n))
  pairs_ranged f h c a zero = λ i j d l m. absurd (omega (arith, m))
  pairs_ranged f h c a (suc n) =
      pairs_append (f a) (flat_map f (range_with_len (a + 1) n)) (h a) (pairs_ranged f h c (a + 1) n)
      (λ k d l. all_ranged (R _) f (a + 1) n (λ j m q. c a j (omega (arith, m)) k d l))

  pairs_map : {Y : Type 0} (g : Y → X) (ys : List Y) → AllPairs (λ one later. R (g one) (g later)) ys → AllPairs R (map g ys)
  pairs_map g [] h = λ i j d l m. absurd (omega (arith, m))
  pairs_map {Y} g (y ∷ ys) h =
      AllPairs-cons R (g y) (map g ys) (All-map (R (g y)) g ys (λ k d l. h 0 (suc k) d (omega arith) (omega (arith, l))))
      (pairs_map g ys (λ i j d l m. h (suc i) (suc j) d (omega (arith, l)) (omega (arith, m))))

module _ (mode : Mode) (areas : List Area) (shapes : List Drawing) (rank : ℕ) where
  row_apart : (y : ℕ) → AllPairs StandApart (row_spans mode areas shapes rank y)
  row_apart y =
      let ss = stretches 0 (shown_row mode areas shapes y) in
      pairs_map StandApart (stretch_span rank y) ss (λ i j d l m r e. maximal 0 (shown_row mode areas shapes y) i j d l m)

  rows_apart : (y row : ℕ) → y < row → All (λ one. All (StandApart one) (row_spans mode areas shapes rank row)) (row_spans mode areas shapes rank y)
  rows_apart y row l =
      let ss = stretches 0 (shown_row mode areas shapes y) in
      let ts = stretches 0 (shown_row mode areas shapes row) in
      All-map (λ (one : Placed). All (StandApart one) (row_spans mode areas shapes rank row)) (stretch_span rank y) ss (λ k d m.
      All-map (StandApart (stretch_span rank y (get_or ss k d))) (stretch_span rank row) ts (λ i e n r same. absurd (omega (arith, l, same))))

  rank_apart : AllPairs StandApart (rank_spans mode areas shapes rank)
  rank_apart = pairs_ranged StandApart (row_spans mode areas shapes rank) row_apart rows_apart 0 (bottom_end areas)

ranks_differ : (scene : SceneView) (i j : ℕ) → i < j → All (λ one. All (StandApart one) (rank_spans scene.mode (areas_of scene) (shapes_of scene.shapes j) j)) (rank_spans scene.mode (areas_of scene) (shapes_of scene.shapes i) i)
ranks_differ scene i j l = λ k d m n e q.
    let first = of_rank scene i k d m in
    let second = of_rank scene j n e q in
    λ same. absurd (omega (arith, l, first, second, same))

pub scene_apart : (scene : SceneView) → AllPairs StandApart (ready_shapes scene)
unfolding ready_shapes
scene_apart scene = pairs_ranged StandApart (λ rank. rank_spans scene.mode (areas_of scene) (shapes_of scene.shapes rank) rank)
    (λ rank. rank_apart scene.mode (areas_of scene) (shapes_of scene.shapes rank) rank) (ranks_differ scene) 0 scene.ranks
