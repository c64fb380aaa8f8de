-- The weight of images, added up one after the other.
use Rattle.std.proofs.Common.{◌≡◌, ℕ, zero, suc, ◌+◌, ◌*◌, ◌≤◌, ◌<◌, Bool, true, false, List, [], ◌∷◌, length, take, Some, None, map, get_or, refl, subst, sym, ap, ◌∙◌, ◌++◌, ◌^◌, add-one, arith}
use Rattle.std.proofs.lemmas.List.{take_more}
use Rattle.std.specs.Prelude.{slice_get, All}
use Rattle.std.specs.List.{range_with_len, sum_by}
use Rattle.std.proofs.lemmas.List.{length-map}
use Rattle.std.proofs.lemmas.List.Elements.{All-nil, All-cons}
use Rattle.std.proofs.lemmas.List.FromFn.{length-range_with_len}
use Rattle.icet_model.specs.Tiles.{TileView}
use Rattle.icet_model.specs.declared.names.Mode.{Mode}
use Rattle.icet_scene_model.specs.Jobs.{shapes_of}
use Rattle.icet_scene_model.specs.Raster.{Drawing}
use Rattle.icet_scene_model.specs.Scene.{SceneView}
use Rattle.icet_jobs.specs.Composites.{pieces_from, rank_image, rank_images}
use Rattle.std.proofs.lemmas.List.Sums.{sum_by_push}
use Rattle.icet_model.proofs.Lists.{take_next_suc}
use Rattle.icet_model.specs.Run.{Piece}
use Rattle.icet_sparse.specs.Sparse.{IsPiece}
use Rattle.icet_model.specs.Pixel.{Pixel}
use Rattle.icet_sparse.specs.Runs.{fragments_of, run_count, weight_of}

few_runs : (inside : Bool) (ps : List Pixel) → run_count inside ps ≤ length ps
few_runs inside [] = omega arith
few_runs inside (None ∷ ps) = let h = few_runs false ps in omega (arith, h)
few_runs true (Some f ∷ ps) = let h = few_runs true ps in omega (arith, h)
few_runs false (Some f ∷ ps) = let h = few_runs true ps in omega (arith, h)

few_fragments : (ps : List Pixel) → length (fragments_of ps) ≤ length ps
few_fragments [] = omega arith
few_fragments (None ∷ ps) = let h = few_fragments ps in omega (arith, h)
few_fragments (Some f ∷ ps) = let h = few_fragments ps in omega (arith, h)

-- no pixel weighs more than 16
pub weight_within : (ps : List Pixel) → weight_of ps ≤ 16 * length ps
weight_within ps = let r = few_runs false ps in let f = few_fragments ps in omega (arith, r, f)

pub piece_within : (p : Piece (List Pixel)) → IsPiece p → weight_of p.content ≤ 2 ^ 36
piece_within p k =
    let w = weight_within p.content in
    let short : length p.content ≤ 4294967296 = omega (arith, k.size, k.end) in
    omega (arith, w, short)

-- one more of those that are added up
more : {X : Type 0} (f : X → ℕ) (xs : List X) (i : ℕ) (x : X) (w v : ℕ) → take (i + 1) xs ≡ take i xs ++ x ∷ [] → w ≡ sum_by f (take i xs) → v ≡ f x → w + v ≡ sum_by f (take (i + 1) xs)
more f xs i x w v e d g = (λ j. d j + g j) ∙ sym (ap (sum_by f) e ∙ sum_by_push f (take i xs) x)

pub more_at : {X : Type 0} (f : X → ℕ) (xs : List X) (i : ℕ) (x : X) (w v : ℕ) → slice_get xs i ≡ Some x → w ≡ sum_by f (take i xs) → v ≡ f x → w + v ≡ sum_by f (take (i + 1) xs)
more_at f xs i x w v e = more f xs i x w v (ap (λ n. take n xs) (add-one i) ∙ take_next_suc xs i x e)

pub more_in_turn : {X : Type 0} (f : X → ℕ) (xs : List X) (i : ℕ) (x : X) (w v : ℕ) → i < length xs → x ≡ get_or xs i x → w ≡ sum_by f (take i xs) → v ≡ f x → w + v ≡ sum_by f (take (i + 1) xs)
more_in_turn f xs i x w v l is = more f xs i x w v (take_more xs i x l ∙ ap (λ y. take i xs ++ y ∷ []) (sym is))

-- there is an image for each rank
pub image_count : (strands : ℕ) (scene : SceneView) → length (rank_images strands scene) ≡ scene.ranks
image_count strands scene = length-map (range_with_len 0 scene.ranks) (rank_image strands scene) ∙ length-range_with_len 0 scene.ranks

piece_count : (strands t : ℕ) (mode : Mode) (shapes : List Drawing) (tiles : List TileView) → length (pieces_from strands t mode shapes tiles) ≡ length tiles
piece_count strands t mode shapes [] = refl
piece_count strands t mode shapes (tile ∷ tiles) = ap suc (piece_count strands (suc t) mode shapes tiles)

each_long : (strands : ℕ) (scene : SceneView) (first n : ℕ) → All (λ image. length image ≡ length scene.tiles) (map (rank_image strands scene) (range_with_len first n))
each_long strands scene first zero = All-nil (λ image. length image ≡ length scene.tiles)
each_long strands scene first (suc n) = All-cons (λ image. length image ≡ length scene.tiles) (rank_image strands scene first) (map (rank_image strands scene) (range_with_len (first + 1) n)) (piece_count strands 0 scene.mode (shapes_of scene.shapes first) scene.tiles) (each_long strands scene (first + 1) n)

-- each rank has an image of each tile
pub images_long : (strands : ℕ) (scene : SceneView) (images : List (List (Piece (List Pixel)))) (tiles : ℕ) → images ≡ rank_images strands scene → tiles ≡ length scene.tiles → All (λ image. length image ≡ tiles) images
images_long strands scene images tiles e f = subst (λ n. All (λ image. length image ≡ n) images) (sym f) (subst (All (λ image. length image ≡ length scene.tiles)) (sym e) (each_long strands scene 0 scene.ranks))
