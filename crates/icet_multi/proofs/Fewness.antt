-- A tile has no more contributors than there are ranks, so the programs are short.
use Rattle.std.proofs.Common.{◌≡◌, ℕ, ◌<◌, ◌≤◌, Bool, true, false, List, [], ◌∷◌, length, refl, arith, eqb-true, ne_eqb}
use Rattle.std.specs.Prelude.{◌≢◌, ◌||◌}
use Rattle.std.proofs.Math.Dec.{eqb}
use Rattle.std.specs.List.{AllByRecursion, IsDistinct, list_any}
use Rattle.std.proofs.lemmas.Map.Steps.{length-le_from_distinct_below}
use Rattle.std.proofs.lemmas.Map.Keys.{IsDistinct-cons}
use Rattle.icet_plan.proofs.Lists.{all_weaker}
use Rattle.icet_multi.specs.Direct.{TileView, IsTile, AreTiles, direct_program}
use Rattle.icet_multi.proofs.Distinct.{Apart, apart_from_pairs}
use Rattle.icet_multi.proofs.DirectSteps.{program_length}

distinct : (cs : List ℕ) → Apart (λ a b. a ≢ b) cs → IsDistinct eqb cs
unfolding IsDistinct
distinct [] h = tt
distinct (c ∷ cs) h = IsDistinct-cons eqb c cs (all_weaker (λ d. c ≢ d) (λ d. eqb c d ≡ false) (λ d n. ne_eqb c d n) cs h.0) (distinct cs h.1)

below : (n : ℕ) (cs : List ℕ) → AllByRecursion (λ c. c < n) cs → (q : ℕ) → list_any (eqb q) cs ≡ true → q < n
below n [] h q k = absurd (cc)
below n (c ∷ cs) h q k = go (eqb q c) refl k (below n cs h.1 q)
  where
    go : (b : Bool) → eqb q c ≡ b → (b || list_any (eqb q) cs) ≡ true → (list_any (eqb q) cs ≡ true → q < n) → q < n
    go true e k f = let l = h.0 in omega (arith, l, eqb-true q c e)
    go false e k f = f k

few : (n : ℕ) (x : TileView) → n ≤ 256 → IsTile n x → length x.contributors ≤ 256
few n x l i = omega (arith, l, length-le_from_distinct_below x.contributors n (distinct x.contributors (apart_from_pairs (λ a b. a ≢ b) x.contributors i.distinct)) (below n x.contributors i.contributors))

pub program_short : (n r : ℕ) (xs : List TileView) → n ≤ 256 → length xs ≤ 64 → AreTiles n xs → length (direct_program xs r) < 4294967296
program_short n r xs l m h = omega (arith, m, program_length xs r (all_weaker (IsTile n) (λ x. length x.contributors ≤ 256) (λ x i. few n x l i) xs h.each))
