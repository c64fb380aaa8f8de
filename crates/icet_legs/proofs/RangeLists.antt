-- A list that is said by its places, one more at a time.
use Rattle.std.proofs.Common.{◌≡◌, ℕ, zero, suc, ◌+◌, ◌<◌, List, [], ◌∷◌, ◌++◌, length, length-append, get_or, refl, sym, ap, ◌∙◌, arith, Option, None, ⊎_elim}
use Rattle.std.specs.Prelude.{◌⊎◌}

get_or_front : {X : Type 0} (xs ys : List (Option X)) (a : ℕ) → a < length xs → get_or (xs ++ ys) a None ≡ get_or xs a None
get_or_front [] ys a l = absurd (omega arith)
get_or_front (x ∷ xs) ys zero l = refl
get_or_front (x ∷ xs) ys (suc a) l = get_or_front xs ys a (omega arith)

get_or_last : {X : Type 0} (xs : List (Option X)) (y : Option X) → get_or (xs ++ y ∷ []) (length xs) None ≡ y
get_or_last [] y = refl
get_or_last (x ∷ xs) y = get_or_last xs y

pub range_pushed : {X : Type 0} (n : ℕ) (f : ℕ → Option X) (old new : List (Option X)) → length old ≡ n → ((a : ℕ) → a < n → get_or old a None ≡ f a) → new ≡ old ++ f n ∷ [] → (length new ≡ n + 1) × ((a : ℕ) → a < n + 1 → get_or new a None ≡ f a)
range_pushed n f old new count are is = (
  ap (λ z. length z) is ∙ (length-append old (f n ∷ []) ∙ (let z : length old + 1 ≡ n + 1 = omega (arith, count) in z)),
  λ a l. ap (λ z. get_or z a None) is ∙ ⊎_elim
      (λ (m : a < n). get_or_front old (f n ∷ []) a (omega (arith, m, count)) ∙ are a m)
      (λ (m : a ≡ n). ap (λ z. get_or (old ++ f n ∷ []) z None) (m ∙ sym count) ∙ (get_or_last old (f n) ∙ ap f (sym m)))
      (let s : (a < n) ⊎ (a ≡ n) = grind (arith, l) in s),
)
