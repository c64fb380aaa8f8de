-- The pixels of a piece are the values of its bracket.
use Rattle.std.proofs.Common.{◌≡◌, ℕ, zero, suc, ◌+◌, ◌-◌, ◌<◌, ◌≤◌, List, [], ◌∷◌, map, length, get_or, take, drop, replicate, refl, ap, ◌∙◌, subst, arith, None}
use Rattle.std.specs.List.{zip}
use Rattle.icet_model.specs.Fit.{Tiles}
use Rattle.icet_model.specs.Reading.{Respects}
use Rattle.icet_model.specs.declared.bracket.Bracket.{Bracket}
use Rattle.icet_model.specs.declared.bracket.Bracket.TheVariants.{Pair}
use Rattle.icet_model.specs.Plan.{bracket_carrier, pixel_carrier, values, AreWhole}
use Rattle.icet_model.specs.declared.names.Mode.{Mode}
use Rattle.icet_model.specs.Pixel.{joined}
use Rattle.icet_model.specs.Bracket.{Images, value}
use Rattle.std.specs.List.{range_with_len}

module _ {X : Type 0} (none : X) (join : X → X → X) where
  map_blank : (n first : ℕ) → map (λ i. none) (range_with_len first n) ≡ replicate n none
  map_blank zero first = refl
  map_blank (suc n) first = ap (λ xs. none ∷ xs) (map_blank n (first + 1))

  map_take : (f : ℕ → X) (n m first : ℕ) → n ≤ m → map f (range_with_len first n) ≡ take n (map f (range_with_len first m))
  map_take f zero m first l = refl
  map_take f (suc n) zero first l = absurd (omega arith)
  map_take f (suc n) (suc m) first l = ap (λ xs. f first ∷ xs) (map_take f n m (first + 1) (omega arith))

  map_drop : (f : ℕ → X) (n m first : ℕ) → n ≤ m → map f (range_with_len (first + n) (m - n)) ≡ drop n (map f (range_with_len first m))
  map_drop f zero m first l = let a : first + 0 ≡ first = omega arith in let b : m - 0 ≡ m = omega arith in rw (a, b) refl
  map_drop f (suc n) zero first l = absurd (omega arith)
  map_drop f (suc n) (suc m) first l =
      let a : first + suc n ≡ first + 1 + n = omega arith in
      let b : suc m - suc n ≡ m - n = omega arith in
      rw (a, b) (map_drop f n m (first + 1) (omega arith))

  map_join : (f g : ℕ → X) (is : List ℕ) → map (λ i. join (f i) (g i)) is ≡ map (λ p. join p.0 p.1) (zip (map f is) (map g is))
  map_join f g [] = refl
  map_join f g (i ∷ is) = ap (λ xs. join (f i) (g i) ∷ xs) (map_join f g is)

  map_index : (xs : List X) (f : ℕ → X) (first : ℕ) → ((i : ℕ) → i < length xs → f (first + i) ≡ get_or xs i none) → map f (range_with_len first (length xs)) ≡ xs
  map_index [] f first h = refl
  map_index (x ∷ xs) f first h =
      let e : f first ≡ x = ap f (let z : first ≡ first + 0 = omega arith in z) ∙ h 0 (omega arith) in
      ap (λ y. y ∷ map f (range_with_len (first + 1) (length xs))) e
      ∙ ap (λ ys. x ∷ ys) (map_index xs f (first + 1) (λ i l. ap f (let z : first + 1 + i ≡ first + suc i = omega arith in z) ∙ h (suc i) (omega arith)))

module _ (mode : Mode) where
  -- the value of a pair is the join of its parts' values
  pub value-pair : (images : Images) (front back : Bracket) (t i : ℕ) → value mode images (Pair front back) t i ≡ joined mode (value mode images front t i) (value mode images back t i)
  unfolding Rattle.icet_model.specs.declared.bracket.Bracket.TheBlock.hidden-the_row-Bracket-0 denote.Hole.Carrier.hidden
  value-pair images front back t i = refl

  values-pair : (images : Images) (front back : Bracket) (t : ℕ) (is : List ℕ) → map (λ i. value mode images (Pair front back) t i) is ≡ map (λ i. joined mode (value mode images front t i) (value mode images back t i)) is
  values-pair images front back t [] = refl
  values-pair images front back t (i ∷ is) = ap (λ p. p ∷ map (λ i. value mode images (Pair front back) t i) is) (value-pair images front back t i) ∙ ap (λ ps. joined mode (value mode images front t i) (value mode images back t i) ∷ ps) (values-pair images front back t is)

  pub values_respect : (tiles : Tiles) (images : Images) → AreWhole tiles images → (r : ℕ) → Respects tiles (bracket_carrier tiles.sizes r) (pixel_carrier mode tiles.sizes (images r)) (values mode images)
  values_respect tiles images sized r = record {
    size = λ t. refl;
    load = λ t l. let e : get_or tiles.sizes t 0 - 0 ≡ length (images r t) = omega (arith, sized r t l) in
        ap (λ n. map (λ i. get_or (images r t) i None) (range_with_len 0 n)) e ∙ map_index None (joined mode) (images r t) (λ i. get_or (images r t) i None) 0 (λ i l. ap (λ k. get_or (images r t) k None) (let z : 0 + i ≡ i = omega arith in z));
    blank = λ t lo hi. map_blank None (joined mode) (hi - lo) lo;
    front = λ t lo at hi b l m. map_take None (joined mode) (λ i. value mode images b t i) (at - lo) (hi - lo) lo (omega arith);
    rest = λ t lo at hi b l m.
        let a : lo + (at - lo) ≡ at = omega arith in
        let n : (hi - lo) - (at - lo) ≡ hi - at = omega arith in
        subst (λ z. map (λ i. value mode images b t i) (range_with_len z (hi - at)) ≡ drop (at - lo) (map (λ i. value mode images b t i) (range_with_len lo (hi - lo)))) a
        (subst (λ z. map (λ i. value mode images b t i) (range_with_len (lo + (at - lo)) z) ≡ drop (at - lo) (map (λ i. value mode images b t i) (range_with_len lo (hi - lo)))) n
        (map_drop None (joined mode) (λ i. value mode images b t i) (at - lo) (hi - lo) lo (omega arith)));
    join = λ t lo hi x y. values-pair images x y t (range_with_len lo (hi - lo)) ∙ map_join None (joined mode) (λ i. value mode images x t i) (λ i. value mode images y t i) (range_with_len lo (hi - lo));
  }
