-- What holds of a list that is made tile by tile.
use Rattle.std.proofs.Common.{◌≡◌, ℕ, zero, suc, ◌+◌, ◌*◌, ◌<◌, ◌≤◌, List, [], ◌∷◌, ◌++◌, length, get_or, take, refl, sym, ap, ◌∙◌, arith, add-one, length-append}
use Rattle.std.specs.List.{AllByRecursion}
use Rattle.std.proofs.lemmas.List.{append_assoc, append-nil}
use Rattle.icet_plan.proofs.Segments.{all_append}
use Rattle.icet_multi.specs.Direct.{TileView, by_tile}

pub always : {X : Type 0} (P : X → Type 0) → ((x : X) → P x) → (xs : List X) → AllByRecursion P xs
always P f [] = tt
always P f (x ∷ xs) = (f x, always P f xs)

-- what holds of all that each tile gives holds of all
pub all_by_tile : {A : Type 0} (P : A → Type 0) (f : ℕ → TileView → List A) (t : ℕ) (xs : List TileView) → AllByRecursion (λ x. (n : ℕ) → AllByRecursion P (f n x)) xs → AllByRecursion P (by_tile f t xs)
all_by_tile P f t [] h = tt
all_by_tile P f t (x ∷ xs) h = all_append P (f t x) (by_tile f (suc t) xs) (h.0 t) (all_by_tile P f (suc t) xs h.1)

-- where no tile gives anything
pub none_by_tile : {A : Type 0} (f : ℕ → TileView → List A) (t : ℕ) (xs : List TileView) → AllByRecursion (λ x. (n : ℕ) → f n x ≡ []) xs → by_tile f t xs ≡ []
none_by_tile f t [] h = refl
none_by_tile f t (x ∷ xs) h = ap (λ z. z ++ by_tile f (suc t) xs) (h.0 t) ∙ none_by_tile f (suc t) xs h.1

-- an image of lists that goes through appending goes through tiles
pub image_by_tile : {A B : Type 0} (g : List A → List B) → g [] ≡ [] → ((ys zs : List A) → g (ys ++ zs) ≡ g ys ++ g zs) → (f : ℕ → TileView → List A) (h : ℕ → TileView → List B) (t : ℕ) (xs : List TileView) → AllByRecursion (λ x. (n : ℕ) → g (f n x) ≡ h n x) xs → g (by_tile f t xs) ≡ by_tile h t xs
image_by_tile g nil append f h t [] each = nil
image_by_tile g nil append f h t (x ∷ xs) each = append (f t x) (by_tile f (suc t) xs) ∙ (ap (λ z. z ++ g (by_tile f (suc t) xs)) (each.0 t) ∙ ap (λ z. h t x ++ z) (image_by_tile g nil append f h (suc t) xs each.1))

-- how long it is
pub length_by_tile : {A : Type 0} (most : ℕ) (f : ℕ → TileView → List A) (t : ℕ) (xs : List TileView) → AllByRecursion (λ x. (n : ℕ) → length (f n x) ≤ most) xs → length (by_tile f t xs) ≤ length xs * most
length_by_tile most f t [] h = omega arith
length_by_tile most f t (x ∷ xs) h = let a = length-append (f t x) (by_tile f (suc t) xs) in let b = h.0 t in let c = length_by_tile most f (suc t) xs h.1 in omega (arith, a, b, c)

tile_next : {A : Type 0} (f : ℕ → TileView → List A) (s : ℕ) (xs : List TileView) (k : ℕ) (d : TileView) → k < length xs → by_tile f s (take (suc k) xs) ≡ by_tile f s (take k xs) ++ f (s + k) (get_or xs k d)
tile_next f s [] k d l = absurd (omega arith)
tile_next f s (x ∷ xs) zero d l = append-nil (f s x) ∙ ap (λ t. f t x) (let z : s ≡ s + 0 = omega arith in z)
tile_next f s (x ∷ xs) (suc k) d l =
    ap (λ all. f s x ++ all) (tile_next f (suc s) xs k d (omega arith) ∙ ap (λ t. by_tile f (suc s) (take k xs) ++ f t (get_or xs k d)) (let z : suc s + k ≡ s + suc k = omega arith in z))
    ∙ sym (append_assoc (f s x) (by_tile f (suc s) (take k xs)) (f (s + suc k) (get_or xs k d)))

-- one tile more
pub tile_more : {A : Type 0} (f : ℕ → TileView → List A) (xs : List TileView) (k : ℕ) (d : TileView) → k < length xs → by_tile f 0 (take (k + 1) xs) ≡ by_tile f 0 (take k xs) ++ f k (get_or xs k d)
tile_more f xs k d l = rw add-one (tile_next f 0 xs k d l ∙ ap (λ t. by_tile f 0 (take k xs) ++ f t (get_or xs k d)) (let z : 0 + k ≡ k = omega arith in z))

-- one tile more, put behind what was there
pub tile_put : {A : Type 0} (f : ℕ → TileView → List A) (before with now : List A) (xs : List TileView) (k : ℕ) (x : TileView) → k < length xs → with ≡ before ++ by_tile f 0 (take k xs) → x ≡ get_or xs k x → now ≡ with ++ f k x → now ≡ before ++ by_tile f 0 (take (k + 1) xs)
tile_put f before with now xs k x l with_is x_is now_is =
    now_is
    ∙ (ap (λ z. z ++ f k x) with_is
    ∙ (append_assoc before (by_tile f 0 (take k xs)) (f k x)
    ∙ (ap (λ y. before ++ (by_tile f 0 (take k xs) ++ f k y)) x_is
    ∙ ap (λ z. before ++ z) (sym (tile_more f xs k x l)))))
