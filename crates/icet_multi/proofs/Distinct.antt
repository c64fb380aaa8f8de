-- Lists without a number that stands twice.
use Rattle.std.proofs.Common.{◌≡◌, ℕ, suc, false, List, [], ◌∷◌, refl, sym, ap, ◌∙◌, arith, ne_eqb}
use Rattle.std.specs.Prelude.{◌||◌, ◌≢◌, AllPairs}
use Rattle.std.specs.List.{AllByRecursion}
use Rattle.icet_multi.specs.Direct.{TileView, has}
use Rattle.icet_model.proofs.Lists.{all_in_turn}

-- the relation holds of each element and all later ones
abbrev pub Apart : {X : Type 0} → (X → X → Type 0) → List X → Type 0
Apart R [] = Unit {0}
Apart R (x ∷ xs) = AllByRecursion (R x) xs × Apart R xs

-- no contributor stands twice in its tile
abbrev pub EachOnce : List TileView → Type 0
EachOnce xs = AllByRecursion (λ x. Apart (λ a b. a ≢ b) x.contributors) xs

pub apart_from_pairs : {X : Type 0} (R : X → X → Type 0) (xs : List X) → AllPairs R xs → Apart R xs
apart_from_pairs R [] h = tt
apart_from_pairs R (x ∷ xs) h = (all_in_turn (R x) xs (λ i d l. h 0 (suc i) d (omega arith) (omega arith)), apart_from_pairs R xs (λ i j d l m. h (suc i) (suc j) d (omega arith) (omega arith)))

-- a number that differs from all isn't one of them
pub has_none : (r : ℕ) (cs : List ℕ) → AllByRecursion (λ c. r ≢ c) cs → has r cs ≡ false
has_none r [] h = refl
has_none r (c ∷ cs) h = ap (λ b. b || has r cs) (ne_eqb c r (λ e. h.0 (sym e))) ∙ has_none r cs h.1
