-- The places of a plan's pairs in its list.
use Rattle.std.proofs.Common.{◌≡◌, ◌≢◌, ℕ, zero, suc, ◌+◌, ◌<◌, ◌≤◌, List, [], ◌∷◌, ◌++◌, length, refl, sym, ap, ◌∙◌, subst, arith, Some, eqb-true, ⊎_elim, Bool, true, false, cond}
use Rattle.std.specs.Prelude.{filter}
use Rattle.std.specs.List.{AllByRecursion, flat_map, range_with_len, slice_get}
use Rattle.std.proofs.lemmas.List.{get_or_past, length-map}
use Rattle.std.proofs.lemmas.Bool.{cases_lt}
use Rattle.icet_model.specs.declared.exchange.Exchange.{Exchange}
use Rattle.icet_model.specs.declared.exchange.Kind.{Kind}
use Rattle.icet_model.specs.declared.exchange.Kind.TheVariants.{Send, Take}
use Rattle.icet_model.specs.Exchange.{sends_to, is_send_of, of_rank, exchanges}
use Rattle.icet_model.specs.Matched.{HasPeerIn}
use Rattle.icet_model.specs.Plan.{PlanView, IsPlan, plan_exchanges}
use Rattle.icet_net.specs.Net.{messages_on, pair_if, pairs_from, pairs_of}

-- the pair stands in the list
pub record IsPairAt (pairs : List (ℕ × ℕ)) (q r : ℕ) : Type 0 where
  pub place : ℕ
  pub is : slice_get pairs place ≡ Some (q, r)

left_place : (xs ys : List (ℕ × ℕ)) (i : ℕ) (p : ℕ × ℕ) → slice_get xs i ≡ Some p → slice_get (xs ++ ys) i ≡ Some p
left_place [] ys i p h = absurd (cc)
left_place (x ∷ xs) ys zero p h = h
left_place (x ∷ xs) ys (suc i) p h = left_place xs ys i p h

right_place : (xs ys : List (ℕ × ℕ)) (q r : ℕ) → IsPairAt ys q r → IsPairAt (xs ++ ys) q r
right_place [] ys q r h = h
right_place (x ∷ xs) ys q r h = let k = right_place xs ys q r h in record { place = suc k.place; is = k.is }

-- what stands in two lists in a row stands in one of them
in_parts : (P : ℕ × ℕ → Type 0) (xs ys : List (ℕ × ℕ)) → ((i : ℕ) (p : ℕ × ℕ) → slice_get xs i ≡ Some p → P p) → ((i : ℕ) (p : ℕ × ℕ) → slice_get ys i ≡ Some p → P p) → (i : ℕ) (p : ℕ × ℕ) → slice_get (xs ++ ys) i ≡ Some p → P p
in_parts P [] ys f g i p h = g i p h
in_parts P (x ∷ xs) ys f g zero p h = f zero p h
in_parts P (x ∷ xs) ys f g (suc i) p h = in_parts P xs ys (λ j q. f (suc j) q) g i p h

-- the numbers of a range, and what stands in lists made of them
in_range : (P : ℕ × ℕ → Type 0) (f : ℕ → List (ℕ × ℕ)) (a n : ℕ) → ((k : ℕ) → a ≤ k → k < a + n → (i : ℕ) (p : ℕ × ℕ) → slice_get (f k) i ≡ Some p → P p) → (i : ℕ) (p : ℕ × ℕ) → slice_get (flat_map f (range_with_len a n)) i ≡ Some p → P p
in_range P f a zero h i p e = absurd (cc)
in_range P f a (suc n) h i p e = in_parts P (f a) (flat_map f (range_with_len (a + 1) n)) (h a (omega arith) (omega arith)) (in_range P f (a + 1) n (λ k l m. h k (omega (arith, l)) (omega (arith, m)))) i p e

to_range : (f : ℕ → List (ℕ × ℕ)) (a n k q r : ℕ) → a ≤ k → k < a + n → IsPairAt (f k) q r → IsPairAt (flat_map f (range_with_len a n)) q r
to_range f a zero k q r l m h = absurd (omega (arith, l, m))
to_range f a (suc n) k q r l m h =
    ⊎_elim
    (λ (e : a < k). right_place (f a) (flat_map f (range_with_len (a + 1) n)) q r (to_range f (a + 1) n k q r (omega (arith, e)) (omega (arith, m)) h))
    (λ (e : k ≤ a). let s : k ≡ a = omega (arith, e, l) in let h = subst (λ z. IsPairAt (f z) q r) s h in record { place = h.place; is = left_place (f a) (flat_map f (range_with_len (a + 1) n)) h.place (q, r) h.is })
    (cases_lt a k)

-- a pair of the plan carries messages, between two of its ranks
pub record IsUsed (plan : PlanView) (q r : ℕ) : Type 0 where
  pub carries : 0 < messages_on plan q r
  pub from : q < length plan.programs
  pub to : r < length plan.programs

one_pair : (P : ℕ × ℕ → Type 0) (q r n : ℕ) → (0 < n → P (q, r)) → (i : ℕ) (p : ℕ × ℕ) → slice_get (pair_if q r n) i ≡ Some p → P p
one_pair P q r zero h i p e = absurd (cc)
one_pair P q r (suc n) h zero p e = subst P (let z : (q, r) ≡ p = cc in z) (h (omega arith))
one_pair P q r (suc n) h (suc i) p e = absurd (cc)

pub is_used : (plan : PlanView) (i : ℕ) (p : ℕ × ℕ) → slice_get (pairs_of plan) i ≡ Some p → IsUsed plan p.0 p.1
is_used plan = in_range (λ p. IsUsed plan p.0 p.1) (pairs_from plan (length plan.programs)) 0 (length plan.programs) (λ q l m. in_range (λ p. IsUsed plan p.0 p.1) (λ r. pair_if q r (messages_on plan q r)) 0 (length plan.programs) (λ r k n. one_pair (λ p. IsUsed plan p.0 p.1) q r (messages_on plan q r) (λ c. record { carries = c; from = omega (arith, m); to = omega (arith, n) })))

-- a rank sends only to other ranks of the plan
none_sent : (ranks me r : ℕ) (es : List Exchange) → AllByRecursion (HasPeerIn ranks me) es → 0 < length (filter (sends_to r) es) → (r < ranks) × (me ≢ r)
none_sent ranks me r [] a l = absurd (omega (arith, l))
none_sent ranks me r (e ∷ es) a l = go (sends_to r e) refl l (none_sent ranks me r es a.1)
  where
    peer_is : (k : Kind) (p : ℕ) → is_send_of k p r ≡ true → p ≡ r
    peer_is Send p h = eqb-true p r h
    peer_is Take p h = absurd (cc)

    go : (b : Bool) → sends_to r e ≡ b → 0 < length (cond b (e ∷ filter (sends_to r) es) (filter (sends_to r) es)) → (0 < length (filter (sends_to r) es) → (r < ranks) × (me ≢ r)) → (r < ranks) × (me ≢ r)
    go true h m rest = let p = peer_is e.kind e.peer h in (subst (λ z. z < ranks) p a.0.within, λ z. a.0.other (p ∙ sym z))
    go false h m rest = rest m

no_exchanges : (plan : PlanView) (q : ℕ) → length plan.programs ≤ q → of_rank (plan_exchanges plan) q ≡ []
no_exchanges plan q l = get_or_past (plan_exchanges plan) q [] (let e = length-map plan.programs exchanges in omega (arith, l, e))

module _ (plan : PlanView) (is : IsPlan plan) (q r : ℕ) (l : 0 < messages_on plan q r) where
  sent_to_rank : (r < length plan.programs) × (q ≢ r)
  sent_to_rank = let h = none_sent (length (plan_exchanges plan)) q r (of_rank (plan_exchanges plan) q) (is.matched.peers q) l in (let e = length-map plan.programs exchanges in let f = h.0 in omega (arith, e, f), h.1)

  pub used_apart : q ≢ r
  used_apart = sent_to_rank.1

  from_rank : q < length plan.programs
  from_rank =
      ⊎_elim
      (λ (h : q < length plan.programs). h)
      (λ (h : length plan.programs ≤ q). absurd (let e = ap (λ es. length (filter (sends_to r) es)) (no_exchanges plan q h) in omega (arith, l, e)))
      (cases_lt q (length plan.programs))

  pub used_is : IsUsed plan q r
  used_is = record { carries = l; from = from_rank; to = sent_to_rank.0 }

  here : (n : ℕ) → 0 < n → IsPairAt (pair_if q r n) q r
  here zero h = absurd (omega (arith, h))
  here (suc n) h = record { place = 0; is = refl }

  -- each pair that carries messages stands in the list
  pub place_of_used : IsPairAt (pairs_of plan) q r
  place_of_used = to_range (pairs_from plan (length plan.programs)) 0 (length plan.programs) q q r (omega arith) (let h = from_rank in omega (arith, h)) (to_range (λ k. pair_if q k (messages_on plan q k)) 0 (length plan.programs) r q r (omega arith) (let h = sent_to_rank.0 in omega (arith, h)) (here (messages_on plan q r) l))
