-- In an order of all ranks each rank has a place.
use Rattle.std.proofs.Common.{◌≡◌, ◌≢◌, ℕ, suc, ◌<◌, Bool, true, false, cond, List, [], ◌∷◌, length, refl, sym, arith, Option, Some, None, eqb, eqb-true, ne_eqb}
use Rattle.std.proofs.lemmas.Bool.{eqb-false}
use Rattle.std.proofs.lemmas.Map.Steps.{length-le_from_distinct_below}
use Rattle.std.specs.Prelude.{◌==◌, ◌||◌, option_map}
use Rattle.std.specs.List.{AllByRecursion, IsDistinct, list_any}
use Rattle.icet_plan.proofs.Lists.{all_weaker}
use Rattle.icet_legs.specs.Team.{place_in}
use Rattle.icet_legs.proofs.ListTeams.{Apart}

distinct_of : (xs : List ℕ) → Apart xs → IsDistinct eqb xs
unfolding IsDistinct
distinct_of [] h = tt
distinct_of (x ∷ xs) h = (all_weaker (λ y. x ≢ y) (λ y. eqb x y ≡ false) (λ y n. ne_eqb x y n) xs h.0, distinct_of xs h.1)

below_of : (n : ℕ) (xs : List ℕ) → AllByRecursion (λ r. r < n) xs → (q : ℕ) → list_any (eqb q) xs ≡ true → q < n
below_of n [] h q e = absurd (cc)
below_of n (x ∷ xs) h q e = go (eqb q x) refl (list_any (eqb q) xs) (λ k. below_of n xs h.1 q k) e
  where
    go : (b : Bool) → eqb q x ≡ b → (t : Bool) → (t ≡ true → q < n) → (b || t) ≡ true → q < n
    go true k t f e = let s = eqb-true q x k in let l = h.0 in omega (arith, s, l)
    go false k t f e = f e

-- a number without a place is none of the list
no_place : (xs : List ℕ) (d : ℕ) → place_in xs d ≡ None → AllByRecursion (λ y. d ≢ y) xs
no_place [] d e = tt
no_place (x ∷ xs) d e = go (x == d) refl (place_in xs d) refl (λ k. no_place xs d k) e
  where
    go : (b : Bool) → (x == d) ≡ b → (o : Option ℕ) → place_in xs d ≡ o → (place_in xs d ≡ None → AllByRecursion (λ y. d ≢ y) xs) → cond b (Some 0) (option_map suc o) ≡ None → (d ≢ x) × AllByRecursion (λ y. d ≢ y) xs
    go true b o k f e = absurd (cc)
    go false b None k f e = (λ s. eqb-false x d b (sym s), f k)
    go false b (Some p) k f e = absurd (cc)

pub has_place_in : (xs : List ℕ) (n : ℕ) → length xs ≡ n → AllByRecursion (λ r. r < n) xs → Apart xs → (d : ℕ) → d < n → (p : ℕ) × (place_in xs d ≡ Some p)
has_place_in xs n count below apart d l = go (place_in xs d) refl
  where
    go : (o : Option ℕ) → place_in xs d ≡ o → (p : ℕ) × (place_in xs d ≡ Some p)
    go None e =
        let more : Apart (d ∷ xs) = (no_place xs d e, apart) in
        let all : AllByRecursion (λ r. r < n) (d ∷ xs) = (l, below) in
        let long = length-le_from_distinct_below (d ∷ xs) n (distinct_of (d ∷ xs) more) (below_of n (d ∷ xs) all) in
        absurd (omega (arith, long, count))
    go (Some p) e = (p, e)
