-- The images of a scene's ranks, as pieces and as lists of pixels.
use Rattle.std.proofs.Common.{◌≡◌, ℕ, zero, suc, ◌+◌, ◌*◌, ◌<◌, ◌≤◌, List, [], ◌∷◌, ◌++◌, map, length, take, get_or, replicate, Option, Some, None, refl, sym, ap, ◌∙◌, arith, add-one, ne_eqb, true, false}
use Rattle.std.specs.Prelude.{slice_get, ◌==◌}
use Rattle.std.specs.List.{range_with_len, AllByRecursion}
use Rattle.std.proofs.lemmas.List.{length-map}
use Rattle.std.proofs.lemmas.List.FromFn.{length-range_with_len}
use Rattle.icet_model.specs.declared.names.Mode.{Mode}
use Rattle.icet_model.specs.Pixel.{Pixel}
use Rattle.icet_scene_model.specs.Raster.{Drawing, full_image}
use Rattle.icet_model.specs.Tiles.{Area, TileView as AreaTile}
use Rattle.icet_scene_model.specs.Scene.{SceneView}
use Rattle.icet_scene_model.specs.Jobs.{shapes_of}
use Rattle.icet_model.specs.Run.{Piece}
use Rattle.icet_raster.proofs.Outside.{blank_outside}
use Rattle.icet_interlace.specs.Interlace.{interlaced}
use Rattle.icet_interlace.proofs.Strands.{blank_interlaced, interlaced_length}
use Rattle.icet_rank.specs.Machine.{sizes_of, content_at}
use Rattle.icet_net.specs.Ranks.{AreWholeImages}
use Rattle.icet_jobs.specs.Composites.{images_of, whole_piece, pieces_from, rank_image, rank_images}
use Rattle.icet_model.proofs.Lists.{made_more as one_made_more}

-- an entry of a list that is made of a range
pub made_at : {X : Type 0} (f : ℕ → X) (first n r : ℕ) (d : X) → r < n → get_or (map f (range_with_len first n)) r d ≡ f (first + r)
made_at f first zero r d l = absurd (omega arith)
made_at f first (suc n) zero d l = ap f (let e : first ≡ first + 0 = omega arith in e)
made_at f first (suc n) (suc r) d l = made_at f (first + 1) n r d (omega arith) ∙ ap f (let e : first + 1 + r ≡ first + suc r = omega arith in e)

-- the interlaced image of a tile, and no pixels where there is no tile
abbrev pub image_at : ℕ → Mode → List Drawing → Option AreaTile → List Pixel
image_at strands mode shapes None = []
image_at strands mode shapes (Some tile) = interlaced strands (full_image mode shapes tile.area)

-- the pixels of a tile's piece
content_is : (strands first : ℕ) (mode : Mode) (shapes : List Drawing) (tiles : List AreaTile) (t : ℕ) → content_at (pieces_from strands first mode shapes tiles) t ≡ image_at strands mode shapes (slice_get tiles t)
content_is strands first mode shapes [] t = refl
content_is strands first mode shapes (tile ∷ tiles) zero = refl
content_is strands first mode shapes (tile ∷ tiles) (suc t) = content_is strands (suc first) mode shapes tiles t

pub same_image : (strands : ℕ) (scene : SceneView) (r t : ℕ) → r < scene.ranks → images_of strands scene r t ≡ image_at strands scene.mode (shapes_of scene.shapes r) (slice_get scene.tiles t)
same_image strands scene r t l =
    ap (λ image. content_at image t) (made_at (rank_image strands scene) 0 scene.ranks r (get_or (rank_images strands scene) 0 []) l ∙ ap (rank_image strands scene) (let e : 0 + r ≡ r = omega arith in e))
    ∙ content_is strands 0 scene.mode (shapes_of scene.shapes r) scene.tiles t

pub image_length : (mode : Mode) (shapes : List Drawing) (area : Area) → length (full_image mode shapes area) ≡ area.w * area.h
image_length mode shapes area = length-map (range_with_len 0 (area.w * area.h)) _ ∙ length-range_with_len 0 (area.w * area.h)

piece_at : (strands first : ℕ) (mode : Mode) (shapes : List Drawing) (tiles : List AreaTile) (t : ℕ) (p : Piece (List Pixel)) → slice_get (pieces_from strands first mode shapes tiles) t ≡ Some p → (p.tile ≡ first + t) × (p.lo ≡ 0)
piece_at strands first mode shapes [] t p e = absurd cc
piece_at strands first mode shapes (tile ∷ tiles) zero p e =
    let same : whole_piece strands mode shapes tile.area first ≡ p = cc in
    (ap (λ (q : Piece (List Pixel)). q.tile) (sym same) ∙ (let z : first ≡ first + 0 = omega arith in z), ap (λ (q : Piece (List Pixel)). q.lo) (sym same))
piece_at strands first mode shapes (tile ∷ tiles) (suc t) p e = let h = piece_at strands (suc first) mode shapes tiles t p e in (h.0 ∙ (let z : suc first + t ≡ first + suc t = omega arith in z), h.1)

sizes_are : (strands first : ℕ) (mode : Mode) (shapes : List Drawing) (tiles : List AreaTile) → sizes_of (pieces_from strands first mode shapes tiles) ≡ map (λ tile. tile.area.w * tile.area.h) tiles
sizes_are strands first mode shapes [] = refl
sizes_are strands first mode shapes (tile ∷ tiles) = ap (λ ns. (tile.area.w * tile.area.h) ∷ ns) (sizes_are strands (suc first) mode shapes tiles)

filled : (strands first : ℕ) (mode : Mode) (shapes : List Drawing) (tiles : List AreaTile) → 1 ≤ strands → AllByRecursion (λ (p : Piece (List Pixel)). length p.content ≡ p.hi) (pieces_from strands first mode shapes tiles)
filled strands first mode shapes [] some = tt
filled strands first mode shapes (tile ∷ tiles) some = (interlaced_length strands some (full_image mode shapes tile.area) ∙ image_length mode shapes tile.area, filled strands (suc first) mode shapes tiles some)

whole_image : (strands : ℕ) (mode : Mode) (shapes : List Drawing) (tiles : List AreaTile) → 1 ≤ strands → AreWholeImages (map (λ tile. tile.area.w * tile.area.h) tiles) (pieces_from strands 0 mode shapes tiles)
whole_image strands mode shapes tiles some = record {
  whole = record { each = λ t p e. let h = piece_at strands 0 mode shapes tiles t p e in (h.0 ∙ (let z : 0 + t ≡ t = omega arith in z), h.1) };
  sizes_are = sizes_are strands 0 mode shapes tiles;
  filled = filled strands 0 mode shapes tiles some;
}

each_made : {X : Type 0} (P : X → Type 0) (f : ℕ → X) → ((r : ℕ) → P (f r)) → (rs : List ℕ) → AllByRecursion P (map f rs)
each_made P f h [] = tt
each_made P f h (r ∷ rs) = (h r, each_made P f h rs)

pub whole_images : (strands : ℕ) (scene : SceneView) → 1 ≤ strands → AllByRecursion (AreWholeImages (map (λ tile. tile.area.w * tile.area.h) scene.tiles)) (rank_images strands scene)
whole_images strands scene some = each_made (AreWholeImages (map (λ tile. tile.area.w * tile.area.h) scene.tiles)) (rank_image strands scene) (λ r. whole_image strands scene.mode (shapes_of scene.shapes r) scene.tiles some) (range_with_len 0 scene.ranks)

-- without shapes nothing is drawn, and there is nothing to deal out
pub nothing_drawn : (strands : ℕ) (mode : Mode) (shapes : List Drawing) (area : Area) → 1 ≤ strands → shapes ≡ [] → interlaced strands (full_image mode shapes area) ≡ replicate (area.w * area.h) None
nothing_drawn strands mode shapes area some e = ap (interlaced strands) (ap (λ s. full_image mode s area) e ∙ blank_outside mode [] area refl) ∙ blank_interlaced strands (area.w * area.h) some

-- one entry more of a list that is made of a range
pub made_more : {X : Type 0} (f : ℕ → X) (n : ℕ) → map f (range_with_len 0 (n + 1)) ≡ map f (range_with_len 0 n) ++ f n ∷ []
made_more = one_made_more

-- one tile more
pieces_next : (strands first : ℕ) (mode : Mode) (shapes : List Drawing) (tiles : List AreaTile) (t : ℕ) (tile : AreaTile) → slice_get tiles t ≡ Some tile → pieces_from strands first mode shapes (take (suc t) tiles) ≡ pieces_from strands first mode shapes (take t tiles) ++ whole_piece strands mode shapes tile.area (first + t) ∷ []
pieces_next strands first mode shapes [] t tile e = absurd cc
pieces_next strands first mode shapes (x ∷ tiles) zero tile e = ap (λ p. p ∷ []) (ap (λ (y : AreaTile). whole_piece strands mode shapes y.area first) (let h : x ≡ tile = cc in h) ∙ ap (whole_piece strands mode shapes tile.area) (let z : first ≡ first + 0 = omega arith in z))
pieces_next strands first mode shapes (x ∷ tiles) (suc t) tile e = ap (λ ps. whole_piece strands mode shapes x.area first ∷ ps) (pieces_next strands (suc first) mode shapes tiles t tile e ∙ ap (λ k. pieces_from strands (suc first) mode shapes (take t tiles) ++ whole_piece strands mode shapes tile.area k ∷ []) (let z : suc first + t ≡ first + suc t = omega arith in z))

pub pieces_more : (strands : ℕ) (mode : Mode) (shapes : List Drawing) (tiles : List AreaTile) (t : ℕ) (tile : AreaTile) → slice_get tiles t ≡ Some tile → pieces_from strands 0 mode shapes (take (t + 1) tiles) ≡ pieces_from strands 0 mode shapes (take t tiles) ++ whole_piece strands mode shapes tile.area t ∷ []
pieces_more strands mode shapes tiles t tile e = rw add-one (pieces_next strands 0 mode shapes tiles t tile e ∙ ap (λ k. pieces_from strands 0 mode shapes (take t tiles) ++ whole_piece strands mode shapes tile.area k ∷ []) (let z : 0 + t ≡ t = omega arith in z))

pub no_entry : {X : Type 0} (xs : List X) → (length xs == 0) ≡ true → xs ≡ []
no_entry [] e = refl
no_entry (x ∷ xs) e = absurd (let h : (suc (length xs) == 0) ≡ false = ne_eqb (suc (length xs)) 0 (λ z. absurd (omega (arith, z))) in let z : true ≡ false = sym e ∙ h in cc)
