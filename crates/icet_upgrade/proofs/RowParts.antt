-- The parts of a tile's row, and steps that may want memory.
use Rattle.std.proofs.Common.{◌≡◌, ℕ, ◌+◌, ◌-◌, ◌*◌, ◌<◌, ◌≤◌, min, max, Bool, true, false, List, [], ◌∷◌, ◌++◌, length, map, take, drop, get_or, replicate, Some, None, Result, Ok, Err, OnOk, refl, sym, ap, ◌∙◌, subst, arith}
use Rattle.std.specs.Prelude.{nat_le, slice_get, unsigned_abs}
use Rattle.std.proofs.lemmas.Bool.Decides.{nat_tests}
use Rattle.std.proofs.lemmas.List.{drop-drop, drop-take, drop_all, length-take, map-append, take_more}
use Rattle.std.proofs.lemmas.Option.{get_or_from_slice_get}
use Rattle.icet_base.specs.declared.faults.NoMemory.{NoMemory}
use Rattle.icet_model.specs.Pixel.{Pixel}
use Rattle.icet_model.specs.Tiles.{Area, TileView}
use Rattle.icet_raster.specs.declared.shape.Shape.{Shape}
use Rattle.icet_upgrade.specs.Scans.{Passes}
use Rattle.icet_upgrade.specs.TileImages.{left_of, pixels_from, row_of}
use Rattle.icet_upgrade.specs.declared.scan.Scan.{Scan}
use Rattle.icet_upgrade.specs.declared.tile_image.TileImage.{TileImage}
use Rattle.icet_upgrade.proofs.Orders.{at_mapped}
use Rattle.icet_upgrade.proofs.Steps.{passes_then}

pub cut : (ps : List Pixel) (w start k n : ℕ) → n ≡ min k w → take (start + w - (start + n)) (drop (start + n) ps) ≡ drop k (take w (drop start ps))
cut ps w start k n e = go (nat_le k w) refl
  where
    go : (b : Bool) → nat_le k w ≡ b → take (start + w - (start + n)) (drop (start + n) ps) ≡ drop k (take w (drop start ps))
    go true t =
        let l : k ≤ w = grind (arith, nat_tests, t) in
        let count : start + w - (start + n) ≡ w - k = omega (arith, e, l) in
        let place : start + n ≡ start + k = omega (arith, e, l) in
        let all : k + (w - k) ≡ w = omega (arith, l) in
        (λ i. take (count i) (drop (place i) ps))
        ∙ ap (take (w - k)) (sym (drop-drop k start ps))
        ∙ sym (drop-take k (w - k) (drop start ps))
        ∙ ap (λ m. drop k (take m (drop start ps))) all
    go false t =
        let l : w < k = grind (arith, nat_tests, t) in
        let none : start + w - (start + n) ≡ 0 = omega (arith, e, l) in
        ap (λ m. take m (drop (start + n) ps)) none ∙ sym (drop_all k (take w (drop start ps)) (omega (arith, length-take w (drop start ps), l)))

pub parts : (tile : TileImage) (next y row left : ℕ) → left ≡ max (left_of tile) next → row ≡ y → replicate {A = Pixel} (left - next) None ++ drop (left - left_of tile) (row_of tile row) ≡ pixels_from next y tile
parts tile next y row left e r =
    let gap : left - next ≡ left_of tile - next = omega (arith, e) in
    let skipped : left - left_of tile ≡ next - left_of tile = omega (arith, e) in
    (λ i. replicate {A = Pixel} (gap i) None ++ drop (skipped i) (row_of tile (r i)))

-- where no memory was wanting
pub ok_at : {A : Type 0} (P : A → Type 0) (r : Result (Unit {0}) NoMemory) → OnOk r ((a : A) → P a) → (a : A) → OnOk r (P a)
ok_at P (Ok u) h a = h a
ok_at P (Err e) h a = h

pub joined_passes : (r : Result (Unit {0}) NoMemory) (a b c : Scan) (old mid new : List (ℕ × Shape)) (ps qs rs : List Pixel) → Passes a old b mid ps → OnOk r (Passes b mid c new qs) → ps ++ qs ≡ rs → OnOk r (Passes a old c new rs)
joined_passes (Ok u) a b c old mid new ps qs rs h k e = subst (Passes a old c new) e (passes_then a b c old mid new ps qs h k)
joined_passes (Err f) a b c old mid new ps qs rs h k e = k

-- one more of a list that is made element by element
pub more_mapped : {X Y : Type 0} (f : X → Y) (xs new : List X) (x : X) (ys : List Y) (i : ℕ) (d : Y) → new ≡ xs ++ x ∷ [] → map f xs ≡ take i ys → f x ≡ get_or ys i d → i < length ys → map f new ≡ take (i + 1) ys
more_mapped f xs new x ys i d e h at l =
    ap (map f) e ∙ map-append f xs (x ∷ []) ∙ (λ j. h j ++ at j ∷ []) ∙ sym (take_more ys i d l)

pub seen_area : (layout : List TileView) (t : ℕ) (tile : TileView) → slice_get layout t ≡ Some tile → tile.area ≡ get_or (map (λ (t : TileView). t.area) layout) t tile.area
seen_area layout t tile e = sym (at_mapped (λ (t : TileView). t.area) layout t tile ∙ ap (λ (t : TileView). t.area) (get_or_from_slice_get layout t tile tile e))

pub ok_then : {P Q : Type 0} (r : Result (Unit {0}) NoMemory) → OnOk r P → (P → Q) → OnOk r Q
ok_then (Ok u) h f = f h
ok_then (Err e) h f = h

pub passes_more : (a b c : Scan) (old mid new : List (ℕ × Shape)) (ps : List Pixel) (i : ℕ) (x : Pixel) → i < length ps → x ≡ get_or ps i x → Passes a old b mid (take i ps) → Passes b mid c new (x ∷ []) → Passes a old c new (take (i + 1) ps)
passes_more a b c old mid new ps i x l at h k =
    subst (Passes a old c new) (ap (λ (q : Pixel). take i ps ++ q ∷ []) at ∙ sym (take_more ps i x l)) (passes_then a b c old mid new (take i ps) (x ∷ []) h k)
