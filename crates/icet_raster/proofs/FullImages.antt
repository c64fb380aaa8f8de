-- A full image of one more shape, and of none.
use Rattle.std.proofs.Common.{◌≡◌, ℕ, zero, suc, ◌+◌, ◌*◌, ◌<◌, List, [], ◌∷◌, ◌++◌, map, replicate, refl, ap, ◌∙◌, arith, Some, None}
use Rattle.std.specs.List.{range_with_len}
use Rattle.std.proofs.lemmas.List.Sums.{fold-append}
use Rattle.icet_model.specs.declared.names.Mode.{Mode}
use Rattle.icet_model.specs.declared.names.Mode.TheVariants.{Depth, Blend, WideBlend}
use Rattle.icet_model.specs.Pixel.{DenseView, Pixel}
use Rattle.icet_scene_model.specs.Raster.{Drawing, gives, drawn_over, drawn}
use Rattle.icet_model.specs.Tiles.{Area}
use Rattle.icet_raster.specs.Shapes.{IsDrawn}

-- lists made from two functions that agree
pub map_same : {X : Type 0} (f g : ℕ → X) (a n : ℕ) → ((i : ℕ) → i < n → f (a + i) ≡ g (a + i)) → map f (range_with_len a n) ≡ map g (range_with_len a n)
map_same f g a zero h = refl
map_same f g a (suc n) h =
    let first : f a ≡ g a = ap f (let e : a ≡ a + 0 = omega arith in e) ∙ h 0 (omega arith) ∙ ap g (let e : a + 0 ≡ a = omega arith in e) in
    let rest = map_same f g (a + 1) n (λ i l. ap f (let e : a + 1 + i ≡ a + suc i = omega arith in e) ∙ h (suc i) (omega arith) ∙ ap g (let e : a + suc i ≡ a + 1 + i = omega arith in e)) in
    ap (λ x. x ∷ map f (range_with_len (a + 1) n)) first ∙ ap (λ xs. g a ∷ xs) rest

pub drawn_more : (mode : Mode) (before : List Drawing) (shape : Drawing) (x y : ℕ) → drawn mode (before ++ shape ∷ []) x y ≡ drawn_over mode (drawn mode before x y) (gives shape x y)
drawn_more mode before shape x y = fold-append (λ p s. drawn_over mode p (gives s x y)) None before (shape ∷ [])

pub over_none : (mode : Mode) (p : Pixel) → drawn_over mode p None ≡ p
over_none Depth None = refl
over_none Depth (Some f) = refl
over_none Blend p = refl
over_none WideBlend p = refl

pub wide : (k w h : ℕ) → k < w * h → 0 < w
wide k zero h l = absurd (let e : 0 * h ≡ 0 = grind arith in omega (arith, e))
wide k (suc w) h l = omega arith

pub blanks : (p : Pixel) (a n : ℕ) → replicate n p ≡ map (λ i. p) (range_with_len a n)
blanks p a zero = refl
blanks p a (suc n) = ap (λ xs. p ∷ xs) (blanks p (a + 1) n)

-- before the first shape nothing is drawn
pub drawn-none : (image : DenseView) (mode : Mode) (area : Area) → image ≡ record { w = area.w; h = area.h; pixels = replicate (area.w * area.h) None } → IsDrawn image mode [] area
drawn-none image mode area e = record {
  width = ap (λ d. d.w) e;
  height = ap (λ d. d.h) e;
  pixels = ap (λ d. d.pixels) e ∙ blanks None 0 (area.w * area.h);
}
