-- No pair stands twice among a plan's pairs.
use Rattle.std.proofs.Common.{◌≡◌, ℕ, zero, suc, ◌+◌, ◌≤◌, List, [], ◌∷◌, ◌++◌, length, refl, sym, ap, arith, Some, inl, inr}
use Rattle.std.specs.Prelude.{◌⊎◌}
use Rattle.std.specs.List.{flat_map, range_with_len, slice_get}
use Rattle.icet_model.specs.Plan.{PlanView}
use Rattle.icet_net.specs.Net.{messages_on, pair_if, pairs_from, pairs_of}
use Rattle.icet_net.specs.CloseSteps.{AreDistinct}

abbrev Stands : List (ℕ × ℕ) → ℕ × ℕ → Type 0
Stands xs p = (k : ℕ) × (slice_get xs k ≡ Some p)

where_in : (xs ys : List (ℕ × ℕ)) (i : ℕ) (p : ℕ × ℕ) → slice_get (xs ++ ys) i ≡ Some p → Stands xs p ⊎ Stands ys p
where_in [] ys i p h = inr (i, h)
where_in (x ∷ xs) ys zero p h = inl (0, h)
where_in (x ∷ xs) ys (suc i) p h = go (where_in xs ys i p h)
  where
    go : Stands xs p ⊎ Stands ys p → Stands (x ∷ xs) p ⊎ Stands ys p
    go (inl s) = inl (suc s.0, s.1)
    go (inr s) = inr s

tail_distinct : (x : ℕ × ℕ) (xs : List (ℕ × ℕ)) → AreDistinct (x ∷ xs) → AreDistinct xs
tail_distinct x xs d = record { apart = λ i j p h g. let e = d.apart (suc i) (suc j) p h g in omega (arith, e) }

both_distinct : (xs ys : List (ℕ × ℕ)) → AreDistinct xs → AreDistinct ys → ((p : ℕ × ℕ) → Stands xs p → Stands ys p → ⊥) → AreDistinct (xs ++ ys)
both_distinct [] ys dx dy n = dy
both_distinct (x ∷ xs) ys dx dy n = record { apart = go (both_distinct xs ys (tail_distinct x xs dx) dy (λ p s t. n p (suc s.0, s.1) t)) }
  where
    twice : (p : ℕ × ℕ) → Some x ≡ Some p → Stands xs p ⊎ Stands ys p → ⊥
    twice p h (inl s) = let e = dx.apart 0 (suc s.0) p h s.1 in omega (arith, e)
    twice p h (inr s) = n p (0, h) s

    go : AreDistinct (xs ++ ys) → (i j : ℕ) (p : ℕ × ℕ) → slice_get (x ∷ (xs ++ ys)) i ≡ Some p → slice_get (x ∷ (xs ++ ys)) j ≡ Some p → i ≡ j
    go rest zero zero p h g = refl
    go rest zero (suc j) p h g = absurd (twice p h (where_in xs ys j p g))
    go rest (suc i) zero p h g = absurd (twice p g (where_in xs ys i p h))
    go rest (suc i) (suc j) p h g = ap suc (rest.apart i j p h g)

module _ (f : ℕ → List (ℕ × ℕ)) where
  all_range : (Q : ℕ × ℕ → Type 0) (a n : ℕ) → ((k : ℕ) → a ≤ k → (p : ℕ × ℕ) → Stands (f k) p → Q p) → (p : ℕ × ℕ) → Stands (flat_map f (range_with_len a n)) p → Q p
  all_range Q a zero h p s = absurd (let e = s.1 in cc)
  all_range Q a (suc n) h p s = go (all_range Q (a + 1) n (λ k l. h k (omega (arith, l))) p) (where_in (f a) (flat_map f (range_with_len (a + 1) n)) s.0 p s.1)
    where
      go : (Stands (flat_map f (range_with_len (a + 1) n)) p → Q p) → Stands (f a) p ⊎ Stands (flat_map f (range_with_len (a + 1) n)) p → Q p
      go rest (inl t) = h a (omega arith) p t
      go rest (inr t) = rest t

  module _ (tag : ℕ × ℕ → ℕ) (tagged : (k : ℕ) (p : ℕ × ℕ) → Stands (f k) p → tag p ≡ k) (each : (k : ℕ) → AreDistinct (f k)) where
    range_distinct : (a n : ℕ) → AreDistinct (flat_map f (range_with_len a n))
    range_distinct a zero = record { apart = λ i j p h g. absurd (cc) }
    range_distinct a (suc n) = both_distinct (f a) (flat_map f (range_with_len (a + 1) n)) (each a) (range_distinct (a + 1) n) (λ p s t.
        let e = tagged a p s in
        let l = all_range (λ q. a + 1 ≤ tag q) (a + 1) n (λ k m q u. let z = tagged k q u in omega (arith, z, m)) p t in
        omega (arith, e, l))

if_tagged : (q r n : ℕ) (p : ℕ × ℕ) → Stands (pair_if q r n) p → (q, r) ≡ p
if_tagged q r zero p s = absurd (let e = s.1 in cc)
if_tagged q r (suc n) p s = go s.0 s.1
  where
    go : (k : ℕ) → slice_get ((q, r) ∷ []) k ≡ Some p → (q, r) ≡ p
    go zero e = cc
    go (suc k) e = absurd (cc)

if_distinct : (q r n : ℕ) → AreDistinct (pair_if q r n)
if_distinct q r zero = record { apart = λ i j p h g. absurd (cc) }
if_distinct q r (suc n) = record { apart = go }
  where
    go : (i j : ℕ) (p : ℕ × ℕ) → slice_get ((q, r) ∷ []) i ≡ Some p → slice_get ((q, r) ∷ []) j ≡ Some p → i ≡ j
    go zero zero p h g = refl
    go zero (suc j) p h g = absurd (cc)
    go (suc i) j p h g = absurd (cc)

pub pairs_distinct : (plan : PlanView) → AreDistinct (pairs_of plan)
pairs_distinct plan =
    range_distinct (pairs_from plan (length plan.programs)) (λ p. p.0)
    (λ q. all_range (λ r. pair_if q r (messages_on plan q r)) (λ p. p.0 ≡ q) 0 (length plan.programs) (λ r l p s. ap (λ (z : ℕ × ℕ). z.0) (sym (if_tagged q r (messages_on plan q r) p s))))
    (λ q. range_distinct (λ r. pair_if q r (messages_on plan q r)) (λ p. p.1) (λ r p s. ap (λ (z : ℕ × ℕ). z.1) (sym (if_tagged q r (messages_on plan q r) p s))) (λ r. if_distinct q r (messages_on plan q r)) 0 (length plan.programs))
    0 (length plan.programs)
