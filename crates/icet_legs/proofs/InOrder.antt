-- Exchanges in order: part by part.
use Rattle.std.proofs.Common.{◌≡◌, ℕ, zero, suc, ◌+◌, ◌-◌, ◌*◌, ◌<◌, ◌≤◌, Bool, true, false, cond, List, [], ◌∷◌, ◌++◌, refl, sym, ap, ◌∙◌, subst, arith, Option, Some, inl, inr}
use Rattle.std.proofs.lemmas.List.{append-nil}
use Rattle.std.specs.Prelude.{◌==◌}
use Rattle.std.specs.List.{AllByRecursion}
use Rattle.icet_model.specs.declared.exchange.Kind.TheVariants.{Send, Take}
use Rattle.icet_model.specs.declared.exchange.Exchange.{Exchange}
use Rattle.icet_model.specs.declared.exchange.Op.{Op}
use Rattle.icet_model.specs.declared.exchange.Op.TheVariants.{Join, Keep, Swap}
use Rattle.icet_model.specs.Exchange.{exchanges, key}
use Rattle.icet_plan.specs.Each.{each}
use Rattle.icet_plan.proofs.Lists.{all_weaker}
use Rattle.icet_plan.proofs.LocalRuns.{exchanges-append}
use Rattle.icet_plan.proofs.Segments.{AreWithin, IsPart, all_append}
use Rattle.icet_legs.specs.Team.{Team, IsTeam}
use Rattle.icet_legs.specs.Merge.{Merge, merge_gives, merge_ops, merge_swap}
use Rattle.icet_legs.specs.Collect.{Final, fetch_ops, final_ops, final_swap, hands_in, own_ops}
use Rattle.icet_legs.specs.Order.{AreInOrder, Before, IsLower}

module _ (place : ℕ → Option ℕ) where
  pub order_append : (l m u : ℕ) (xs ys : List Exchange) → AreInOrder place xs → AreInOrder place ys → AreWithin l m xs → AreWithin m u ys → AreInOrder place (xs ++ ys)
  order_append l m u [] ys f g h k = g
  order_append l m u (e ∷ xs) ys f g h k = (
    all_append (Before place e) xs ys f.0 (all_weaker (λ x. (m ≤ key x) × (key x < u)) (Before place e) (λ x w. inl (let a = h.0.1 in let b = w.0 in omega (arith, a, b))) ys k),
    order_append l m u xs ys f.1 g h.1 k,
  )

  pub order_last : (xs : List Exchange) (e : Exchange) → AreInOrder place xs → AllByRecursion (λ x. Before place x e) xs → AreInOrder place (xs ++ e ∷ [])
  order_last [] e h k = (tt, tt)
  order_last (x ∷ xs) e h k = (all_append (Before place x) xs (e ∷ []) h.0 (k.0, tt), order_last xs e h.1 k.1)

  pub order_ops : (l m u : ℕ) (xs ys : List Op) → AreInOrder place (exchanges xs) → AreInOrder place (exchanges ys) → AreWithin l m (exchanges xs) → AreWithin m u (exchanges ys) → AreInOrder place (exchanges (xs ++ ys))
  order_ops l m u xs ys f g h k = subst (AreInOrder place) (sym (exchanges-append xs ys)) (order_append l m u (exchanges xs) (exchanges ys) f g h k)

  -- parts in a row
  pub order_row : (ops : ℕ → ℕ → List Op) (bounds : ℕ → ℕ) (r k : ℕ) → ((t : ℕ) → t < k → IsPart (ops t) (bounds t) (bounds (suc t))) → ((t : ℕ) → t < k → AreInOrder place (exchanges (ops t r))) → AreInOrder place (exchanges (each (λ t. ops t r) k)) × AreWithin (bounds 0) (bounds k) (exchanges (each (λ t. ops t r) k)) × (bounds 0 ≤ bounds k)
  order_row ops bounds r zero h o = (tt, tt, omega arith)
  order_row ops bounds r (suc k) h o =
      let past = order_row ops bounds r k (λ t l. h t (omega arith)) (λ t l. o t (omega arith)) in
      let part = h k (omega arith) in
      let up = part.ordered in
      let low = past.2 in
      let a = past.1 in
      let b = part.within r in (
        order_ops (bounds 0) (bounds k) (bounds (suc k)) (each (λ t. ops t r) k) (ops k r) past.0 (o k (omega arith)) a b,
        subst (AreWithin (bounds 0) (bounds (suc k))) (sym (exchanges-append (each (λ t. ops t r) k) (ops k r)))
            (all_append (λ e. (bounds 0 ≤ key e) × (key e < bounds (suc k))) (exchanges (each (λ t. ops t r) k)) (exchanges (ops k r))
            (all_weaker (λ e. (bounds 0 ≤ key e) × (key e < bounds k)) (λ e. (bounds 0 ≤ key e) × (key e < bounds (suc k))) (λ e w. (w.0, let c = w.1 in omega (arith, c, up))) (exchanges (each (λ t. ops t r) k)) a)
            (all_weaker (λ e. (bounds k ≤ key e) × (key e < bounds (suc k))) (λ e. (bounds 0 ≤ key e) × (key e < bounds (suc k))) (λ e w. (let c = w.0 in omega (arith, c, low), w.1)) (exchanges (ops k r)) b)),
        omega (arith, up, low),
      )

-- a merge is one exchange
pub order_merge : (place : ℕ → Option ℕ) (g : Team) (u : Merge) (p : ℕ) → AreInOrder place (exchanges (merge_ops g u p))
order_merge place g u p = go (merge_gives u p) (u.takes p)
  where
    go : (x y : Bool) → AreInOrder place (exchanges (cond x (Swap (merge_swap g u Send (p - u.w)) 0 ∷ []) (cond y (Swap (merge_swap g u Take (p + u.w)) 1 ∷ Join 0 1 0 ∷ []) [])))
    go true y = (tt, tt)
    go false true = (tt, tt)
    go false false = tt

-- the display takes by the place of the sender
module _ (g : Team) (team : IsTeam g) (f : Final) where
  pub record IsFetched (k : ℕ) (e : Exchange) : Type 0 where
    pub at : ℕ
    pub below : at < k
    pub placed : g.pos e.peer ≡ Some at
    pub key_is : key e ≡ 2 * f.round + 1

  fetched : (k : ℕ) → k ≤ g.n → AreInOrder g.pos (exchanges (each (fetch_ops g f) k)) × AllByRecursion (IsFetched k) (exchanges (each (fetch_ops g f) k))
  fetched zero l = (tt, tt)
  fetched (suc k) l = go (hands_in f k) (fetched k (omega arith))
    where
      es : List Exchange
      es = exchanges (each (fetch_ops g f) k)

      more : (xs : List Exchange) → AllByRecursion (IsFetched k) xs → AllByRecursion (IsFetched (suc k)) xs
      more xs h = all_weaker (IsFetched k) (IsFetched (suc k)) (λ e w. record { at = w.at; below = (let b = w.below in omega (arith, b)); placed = w.placed; key_is = w.key_is }) xs h

      before : (e : Exchange) → IsFetched k e → Before g.pos e (final_swap g f Take k k)
      before e w =
          let b = team.back k (omega arith) in
          let s : key e ≡ key (final_swap g f Take k k) = w.key_is in
          inr (s, subst (λ o. IsLower o (g.pos (g.who k))) (sym w.placed) (subst (λ o. IsLower (Some w.at) o) (sym b) w.below))

      go : (t : Bool) → AreInOrder g.pos es × AllByRecursion (IsFetched k) es → AreInOrder g.pos (exchanges (each (fetch_ops g f) k ++ cond t (Swap (final_swap g f Take k k) 1 ∷ Keep 1 ∷ []) [])) × AllByRecursion (IsFetched (suc k)) (exchanges (each (fetch_ops g f) k ++ cond t (Swap (final_swap g f Take k k) 1 ∷ Keep 1 ∷ []) []))
      go false h =
          let e : es ≡ exchanges (each (fetch_ops g f) k ++ []) = sym (ap exchanges (append-nil (each (fetch_ops g f) k))) in
          (subst (AreInOrder g.pos) e h.0, subst (AllByRecursion (IsFetched (suc k))) e (more es h.1))
      go true h =
          let e : es ++ final_swap g f Take k k ∷ [] ≡ exchanges (each (fetch_ops g f) k ++ Swap (final_swap g f Take k k) 1 ∷ Keep 1 ∷ []) = sym (exchanges-append (each (fetch_ops g f) k) (Swap (final_swap g f Take k k) 1 ∷ Keep 1 ∷ [])) in (
            subst (AreInOrder g.pos) e (order_last g.pos es (final_swap g f Take k k) h.0 (all_weaker (IsFetched k) (λ x. Before g.pos x (final_swap g f Take k k)) before es h.1)),
            subst (AllByRecursion (IsFetched (suc k))) e (all_append (IsFetched (suc k)) es (final_swap g f Take k k ∷ []) (more es h.1) (record { at = k; below = omega arith; placed = team.back k (omega arith); key_is = refl }, tt)),
          )

  pub order_collect : (p : ℕ) → AreInOrder g.pos (exchanges (final_ops g f p))
  order_collect p = go (p == f.shows) (f.holds p)
    where
      own : (t : Bool) → exchanges (cond t (Keep 0 ∷ []) []) ≡ []
      own true = refl
      own false = refl

      all : exchanges (own_ops f ++ each (fetch_ops g f) g.n) ≡ exchanges (each (fetch_ops g f) g.n)
      all = exchanges-append (own_ops f) (each (fetch_ops g f) g.n) ∙ ap (λ z. z ++ exchanges (each (fetch_ops g f) g.n)) (own (f.holds f.shows))

      go : (x y : Bool) → AreInOrder g.pos (exchanges (cond x (own_ops f ++ each (fetch_ops g f) g.n) (cond y (Swap (final_swap g f Send f.shows p) 0 ∷ []) [])))
      go true y = subst (AreInOrder g.pos) (sym all) (fetched g.n (omega arith)).0
      go false true = (tt, tt)
      go false false = tt
