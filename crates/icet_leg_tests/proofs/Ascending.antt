-- The numbers from 0 on are each once in their list.
use Rattle.std.proofs.Common.{◌≡◌, ◌≢◌, ℕ, zero, suc, ◌+◌, ◌<◌, ◌≤◌, List, [], ◌∷◌, ◌++◌, map, refl, sym, ap, ◌∙◌, subst, arith}
use Rattle.std.proofs.lemmas.List.Elements.{All-nil, All-cons}
use Rattle.std.proofs.lemmas.List.FromFn.{length-range_with_len}
use Rattle.std.proofs.lemmas.List.Kept.{AllPairs-cons}
use Rattle.std.specs.Prelude.{All, AllPairs}
use Rattle.std.specs.List.{range_with_len}
use Rattle.icet_model.proofs.Lists.{made_more, no_pairs}
use Rattle.icet_tiles.specs.Contributors.{HasEachOnce}

all_in : (P : ℕ → Type 0) (first n : ℕ) → ((r : ℕ) → first ≤ r → r < first + n → P r) → All P (range_with_len first n)
all_in P first zero h = All-nil P
all_in P first (suc n) h = All-cons P first (range_with_len (first + 1) n) (h first (omega arith) (omega arith)) (all_in P (first + 1) n (λ r a b. h r (omega (arith, a)) (omega (arith, b))))

all_differ : (first n : ℕ) → AllPairs (λ one other. one ≢ other) (range_with_len first n)
all_differ first zero = no_pairs (λ one other. one ≢ other)
all_differ first (suc n) = AllPairs-cons (λ one other. one ≢ other) first (range_with_len (first + 1) n) (all_in (λ r. first ≢ r) (first + 1) n (λ r a b e. absurd (omega (arith, a, e)))) (all_differ (first + 1) n)

pub itself : (xs : List ℕ) → map (λ r. r) xs ≡ xs
itself [] = refl
itself (x ∷ xs) = ap (λ z. x ∷ z) (itself xs)

pub each_once : (n : ℕ) (order : List ℕ) → order ≡ map (λ r. r) (range_with_len 0 n) → HasEachOnce n order
each_once n order e = subst (HasEachOnce n) (sym (e ∙ itself (range_with_len 0 n))) (record {
  count = length-range_with_len 0 n;
  below = all_in (λ r. r < n) 0 n (λ r a b. omega (arith, b));
  distinct = all_differ 0 n;
})

pub one_more : (n : ℕ) (old new : List ℕ) → old ≡ map (λ r. r) (range_with_len 0 n) → new ≡ old ++ n ∷ [] → new ≡ map (λ r. r) (range_with_len 0 (n + 1))
one_more n old new h is = is ∙ (ap (λ z. z ++ n ∷ []) h ∙ sym (made_more (λ r. r) n))
