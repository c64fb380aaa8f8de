-- Fragments joined place by place, one more.
use Rattle.std.proofs.Common.{◌≡◌, ℕ, ◌+◌, ◌<◌, ◌≤◌, List, [], ◌∷◌, ◌++◌, length, take, get_or, refl, sym, ◌∙◌, ap, arith}
use Rattle.std.proofs.lemmas.List.{length-take-le, take_more}
use Rattle.icet_model.specs.declared.names.Mode.{Mode}
use Rattle.icet_model.specs.Pixel.{FragmentView, joined_fragments}
use Rattle.icet_sparse.specs.Joined.{joined_places}

module _ (mode : Mode) where
  joined_append : (xs bs ys ds : List FragmentView) → length xs ≡ length ys → joined_places mode (xs ++ bs) (ys ++ ds) ≡ joined_places mode xs ys ++ joined_places mode bs ds
  joined_append [] bs [] ds e = refl
  joined_append [] bs (y ∷ ys) ds e = absurd (omega arith)
  joined_append (x ∷ xs) bs [] ds e = absurd (omega arith)
  joined_append (x ∷ xs) bs (y ∷ ys) ds e = ap (λ l. joined_fragments mode x y ∷ l) (joined_append xs bs ys ds (omega arith))

  pub joined_length : (xs ys : List FragmentView) → length xs ≡ length ys → length (joined_places mode xs ys) ≡ length xs
  joined_length [] ys e = refl
  joined_length (x ∷ xs) [] e = absurd (omega arith)
  joined_length (x ∷ xs) (y ∷ ys) e = let k = joined_length xs ys (omega arith) in omega arith

  -- one more pair
  pub joined_more : (fs gs : List FragmentView) (i : ℕ) (f g : FragmentView) → i < length fs → i < length gs → f ≡ get_or fs i f → g ≡ get_or gs i g → joined_places mode (take (i + 1) fs) (take (i + 1) gs) ≡ joined_places mode (take i fs) (take i gs) ++ joined_fragments mode f g ∷ []
  joined_more fs gs i f g h k e d =
      let front : take (i + 1) fs ≡ take i fs ++ f ∷ [] = take_more fs i f h ∙ ap (λ x. take i fs ++ x ∷ []) (sym e) in
      let back : take (i + 1) gs ≡ take i gs ++ g ∷ [] = take_more gs i g k ∙ ap (λ x. take i gs ++ x ∷ []) (sym d) in
      let size : length (take i fs) ≡ length (take i gs) = omega (arith, length-take-le i fs (omega arith), length-take-le i gs (omega arith)) in
      rw (front, back) (joined_append (take i fs) (f ∷ []) (take i gs) (g ∷ []) size)
