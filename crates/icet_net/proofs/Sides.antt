-- The sides of a hull's tiles, and the canvases made of them.
use Rattle.std.proofs.Common.{◌≡◌, ℕ, zero, suc, ◌+◌, ◌*◌, ◌<◌, ◌≤◌, List, [], ◌∷◌, ◌++◌, map, length, get_or, take, refl, sym, ap, ◌∙◌, subst, arith, Some, add-one}
use Rattle.std.specs.List.{AllByRecursion, slice_get, range_with_len}
use Rattle.std.proofs.lemmas.List.FromFn.{map-range_with_len_more}
use Rattle.icet_model.specs.Tiles.{TileView}
use Rattle.icet_collect.specs.Collect.{CanvasView, blank_canvas}
use Rattle.icet_net.specs.Net.{sides_at, AreSides}
use Rattle.icet_net.specs.Opening.{sides_of}
use Rattle.icet_model.proofs.Lists.{any_default}
use Rattle.icet_model.specs.declared.limits.TheConstants.{MAX_RANK_PIXELS}

pub canvases_more : (sides : List (ℕ × ℕ)) (strands t : ℕ) (old new : List CanvasView) (x : CanvasView) (s d : ℕ × ℕ) → t < length sides → old ≡ map (λ t. blank_canvas t (sides_at sides t).0 (sides_at sides t).1 strands) (range_with_len 0 t) → s ≡ get_or sides t d → x ≡ blank_canvas t s.0 s.1 strands → new ≡ old ++ x ∷ [] → new ≡ map (λ t. blank_canvas t (sides_at sides t).0 (sides_at sides t).1 strands) (range_with_len 0 (t + 1))
canvases_more sides strands t old new x s d l o e h n =
    let f : ℕ → CanvasView = λ t. blank_canvas t (sides_at sides t).0 (sides_at sides t).1 strands in
    let same : s ≡ sides_at sides t = e ∙ any_default sides t d (0, 0) l in
    n ∙ (ap (λ xs. xs ++ x ∷ []) o ∙ (ap (λ y. map f (range_with_len 0 t) ++ y ∷ []) (h ∙ ap (λ (z : ℕ × ℕ). blank_canvas t z.0 z.1 strands) same) ∙ sym (map-range_with_len_more f 0 t t (omega arith))))

take_next : (layout : List TileView) (t : ℕ) (v : TileView) → slice_get layout t ≡ Some v → map sides_of (take (suc t) layout) ≡ map sides_of (take t layout) ++ sides_of v ∷ []
take_next [] t v h = absurd (cc)
take_next (x ∷ xs) zero v h = ap (λ z. sides_of z ∷ []) (let e : x ≡ v = cc in e)
take_next (x ∷ xs) (suc t) v h = ap (λ ys. sides_of x ∷ ys) (take_next xs t v h)

pub sides_more : (layout : List TileView) (t : ℕ) (v : TileView) (old new : List (ℕ × ℕ)) → slice_get layout t ≡ Some v → old ≡ map sides_of (take t layout) → new ≡ old ++ sides_of v ∷ [] → new ≡ map sides_of (take (t + 1) layout)
sides_more layout t v old new h o n = n ∙ (ap (λ xs. xs ++ sides_of v ∷ []) o ∙ (sym (take_next layout t v h) ∙ ap (λ k. map sides_of (take k layout)) (sym (add-one t))))

products : (layout : List TileView) → map (λ (s : ℕ × ℕ). s.0 * s.1) (map sides_of layout) ≡ map (λ (tile : TileView). tile.area.w * tile.area.h) layout
products [] = refl
products (x ∷ xs) = ap (λ ys. x.area.w * x.area.h ∷ ys) (products xs)

pub are_sides : (layout : List TileView) (sizes : List ℕ) → map (λ (tile : TileView). tile.area.w * tile.area.h) layout ≡ sizes → AllByRecursion (λ n. n ≤ MAX_RANK_PIXELS) sizes → AreSides sizes (map sides_of layout)
are_sides layout sizes e small = record { products = products layout ∙ e; small = small }

all_small : (sides : List (ℕ × ℕ)) → AllByRecursion (λ n. n ≤ MAX_RANK_PIXELS) (map (λ (s : ℕ × ℕ). s.0 * s.1) sides) → AllByRecursion (λ (s : ℕ × ℕ). s.0 * s.1 ≤ MAX_RANK_PIXELS) sides
all_small [] a = tt
all_small (x ∷ xs) a = (a.0, all_small xs a.1)

pub sides_small : (layout : List TileView) (sizes : List ℕ) (sides : List (ℕ × ℕ)) → map (λ (tile : TileView). tile.area.w * tile.area.h) layout ≡ sizes → AllByRecursion (λ n. n ≤ MAX_RANK_PIXELS) sizes → sides ≡ map sides_of layout → AllByRecursion (λ (s : ℕ × ℕ). s.0 * s.1 ≤ MAX_RANK_PIXELS) sides
sides_small layout sizes sides e small is = subst (λ xs. AllByRecursion (λ (s : ℕ × ℕ). s.0 * s.1 ≤ MAX_RANK_PIXELS) xs) (sym is) (all_small (map sides_of layout) (subst (AllByRecursion (λ n. n ≤ MAX_RANK_PIXELS)) (sym (products layout ∙ e)) small))
