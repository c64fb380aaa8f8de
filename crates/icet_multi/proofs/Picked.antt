-- Of a list without repetition each number is picked once.
use Rattle.std.proofs.Common.{◌≡◌, ℕ, Bool, true, false, cond, List, [], ◌∷◌, ◌++◌, refl, ap, ◌∙◌, subst, eqb-true}
use Rattle.std.proofs.lemmas.List.{append-nil}
use Rattle.std.specs.Prelude.{◌==◌, ◌&&◌, ◌||◌, ◌≢◌, not}
use Rattle.std.specs.List.{AllByRecursion}
use Rattle.icet_multi.specs.Direct.{has}
use Rattle.icet_multi.proofs.Distinct.{Apart, has_none}

-- an entry for each number but d, seen from p
abbrev pub entry : {V : Type 0} → ℕ → (ℕ → V) → ℕ → ℕ → List V
entry d m p c = cond (c == d) [] (cond (c == p) (m c ∷ []) [])

abbrev pub entries : {V : Type 0} → ℕ → (ℕ → V) → ℕ → List ℕ → List V
entries d m p [] = []
entries d m p (c ∷ cs) = entry d m p c ++ entries d m p cs

-- they are the one entry of p, if p is in the list and isn't d
pub picked : {V : Type 0} (d : ℕ) (m : ℕ → V) (p : ℕ) (cs : List ℕ) → Apart (λ a b. a ≢ b) cs → entries d m p cs ≡ cond (has p cs && not (p == d)) (m p ∷ []) []
picked d m p [] h = refl
picked {V} d m p (c ∷ cs) h = go (c == p) refl (picked d m p cs h.1)
  where
    other : (b : Bool) → cond b [] (cond false (m c ∷ []) []) ≡ []
    other true = refl
    other false = refl

    own : (b : Bool) → cond b [] (cond true (m p ∷ []) []) ≡ cond (true && not b) (m p ∷ []) []
    own true = refl
    own false = refl

    go : (b : Bool) → (c == p) ≡ b → entries d m p cs ≡ cond (has p cs && not (p == d)) (m p ∷ []) [] → cond (c == d) [] (cond b (m c ∷ []) []) ++ entries d m p cs ≡ cond ((b || has p cs) && not (p == d)) (m p ∷ []) []
    go false e ih = ap (λ xs. xs ++ entries d m p cs) (other (c == d)) ∙ ih
    go true e ih =
        let same : c ≡ p = eqb-true c p e in
        let rest : entries d m p cs ≡ [] = ih ∙ ap (λ b. cond (b && not (p == d)) (m p ∷ []) []) (has_none p cs (subst (λ a. AllByRecursion (λ b. a ≢ b) cs) same h.0)) in
        ap (λ a. cond (a == d) [] (m a ∷ []) ++ entries d m p cs) same
        ∙ (ap (λ xs. cond (p == d) [] (m p ∷ []) ++ xs) rest
        ∙ (append-nil (cond (p == d) [] (m p ∷ []))
        ∙ own (p == d)))
