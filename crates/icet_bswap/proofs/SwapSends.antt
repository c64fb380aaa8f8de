-- How much a participant sends: in all no more positions than the tile has, and one message a round.
use Rattle.std.proofs.Common.{◌≡◌, ℕ, zero, suc, ◌+◌, ◌-◌, ◌*◌, ◌/◌, ◌^◌, ◌<◌, ◌≤◌, Bool, true, false, cond, List, [], ◌∷◌, ◌++◌, refl, ap, ◌∙◌, arith, Option, Some, None}
use Rattle.std.proofs.lemmas.Nat.{mod_below}
use Rattle.std.proofs.Math.Nat.{div-le_of_le-mul}
use Rattle.std.specs.Prelude.{◌==◌}
use Rattle.icet_model.specs.declared.exchange.Kind.TheVariants.{Send, Take}
use Rattle.icet_model.specs.declared.exchange.Op.{Op}
use Rattle.icet_model.specs.declared.exchange.Op.TheVariants.{Join, Swap}
use Rattle.icet_model.specs.Exchange.{exchanges}
use Rattle.icet_plan.specs.Each.{each}
use Rattle.icet_legs.specs.Collect.{Final, final_ops}
use Rattle.icet_legs.specs.Merge.{Merge, merge_gives, merge_ops, merge_swap}
use Rattle.icet_legs.specs.Sends.{send_count, sent_positions}
use Rattle.icet_legs.specs.Team.{Team, IsTeam, by_pos}
use Rattle.icet_legs.proofs.Sends.{counted, counted_each, final_count, final_positions, measured}
use Rattle.icet_bswap.specs.Bswap.{IsSwap, finals, folding, half, leg_ops, other, range, side, swap_ops, swapper, swappers}
use Rattle.icet_bswap.proofs.Folding.{swaps}
use Rattle.icet_bswap.proofs.LegRuns.{keeps_own, two_e}

side_low : (i s : ℕ) → side i s < 2
side_low i s = mod_below (s / 2 ^ i) 2 (omega arith)

-- the halves of a range
halves : (d lo hi : ℕ) → d < 2 → lo ≤ hi → ((half (other d) (lo, hi)).1 - (half (other d) (lo, hi)).0) + ((half d (lo, hi)).1 - (half d (lo, hi)).0) ≡ hi - lo
halves zero lo hi l o = let h : (hi - lo) / 2 ≤ hi - lo = div-le_of_le-mul 2 (omega arith) in omega (arith, h, o)
halves (suc zero) lo hi l o = let h : (hi - lo) / 2 ≤ hi - lo = div-le_of_le-mul 2 (omega arith) in omega (arith, h, o)
halves (suc (suc d)) lo hi l o = absurd (omega (arith, l))

ordered_half : (d lo hi : ℕ) → lo ≤ hi → (half d (lo, hi)).0 ≤ (half d (lo, hi)).1
ordered_half zero lo hi o = omega arith
ordered_half (suc d) lo hi o = let h : (hi - lo) / 2 ≤ hi - lo = div-le_of_le-mul 2 (omega arith) in omega (arith, h, o)

ordered : (size i s : ℕ) → (range size i s).0 ≤ (range size i s).1
ordered size zero s = omega arith
ordered size (suc i) s = ordered_half (side i s) (range size i s).0 (range size i s).1 (ordered size i s)

module _ (g : Team) (s : ℕ) where
  -- what was sent and what is left are the whole
  swaps_positions : (k : ℕ) → sent_positions (exchanges (each (λ i. swap_ops g i s) k)) + ((range g.size k s).1 - (range g.size k s).0) ≡ g.size
  swaps_positions zero = omega arith
  swaps_positions (suc k) =
      let past = swaps_positions k in
      let both = measured (each (λ i. swap_ops g i s) k) (swap_ops g k s) in
      let h = halves (side k s) (range g.size k s).0 (range g.size k s).1 (side_low k s) (ordered g.size k s) in
      omega (arith, past, both, h)

  swaps_count : (k : ℕ) → send_count (exchanges (each (λ i. swap_ops g i s) k)) ≡ 1 * k
  swaps_count k = counted_each (λ i. swap_ops g i s) 1 k (λ i l. refl)

module _ (g : Team) (team : IsTeam g) (m e shows : ℕ) (is : IsSwap g m e shows) (p : ℕ) (l : p < g.n) where
  abbrev u : Merge
  u = folding g e

  abbrev f : Final
  f = finals g m e shows

  abbrev h : Team
  h = swappers g e

  abbrev rounds : Option ℕ → List Op
  rounds o = by_pos [] (λ s. each (λ i. swap_ops h i s) m) o

  abbrev merge_of : Bool → List Op
  merge_of t = cond t (Swap (merge_swap g u Send (p - 1)) 0 ∷ []) (cond (u.takes p) (Swap (merge_swap g u Take (p + 1)) 1 ∷ Join 0 1 0 ∷ []) [])

  folds_most : (x y : Bool) → (send_count (exchanges (cond x (Swap (merge_swap g u Send (p - 1)) 0 ∷ []) (cond y (Swap (merge_swap g u Take (p + 1)) 1 ∷ Join 0 1 0 ∷ []) []))) ≤ 1) × (sent_positions (exchanges (cond x (Swap (merge_swap g u Send (p - 1)) 0 ∷ []) (cond y (Swap (merge_swap g u Take (p + 1)) 1 ∷ Join 0 1 0 ∷ []) []))) ≤ g.size)
  folds_most true y = (omega arith, omega arith)
  folds_most false true = (omega arith, omega arith)
  folds_most false false = (omega arith, omega arith)

  folds_none : (y : Bool) → (send_count (exchanges (cond y (Swap (merge_swap g u Take (p + 1)) 1 ∷ Join 0 1 0 ∷ []) [])) ≡ 0) × (sent_positions (exchanges (cond y (Swap (merge_swap g u Take (p + 1)) 1 ∷ Join 0 1 0 ∷ []) [])) ≡ 0)
  folds_none true = (refl, refl)
  folds_none false = (refl, refl)

  pub sends_little : (sent_positions (exchanges (leg_ops g m e shows p)) ≤ g.size) × (send_count (exchanges (leg_ops g m e shows p)) ≤ m + 1)
  sends_little = go (swapper e p) refl
    where
      holds_of : Option ℕ → Bool
      holds_of o = by_pos false (λ s. true) o

      span_of : Option ℕ → ℕ
      span_of o = by_pos 0 (λ s. (range g.size m s).1) o - by_pos 0 (λ s. (range g.size m s).0) o

      span_if : Option ℕ → ℕ
      span_if o = cond (holds_of o) (span_of o) 0

      count_if : Option ℕ → ℕ
      count_if o = cond (p == shows) 0 (cond (holds_of o) 1 0)

      one_at_most : (x y : Bool) → cond x 0 (cond y 1 0) ≤ 1
      one_at_most true y = omega arith
      one_at_most false true = omega arith
      one_at_most false false = omega arith

      either : Bool → ℕ
      either x = cond x 0 0

      none_at_all : (x : Bool) → either x ≡ 0
      none_at_all true = refl
      none_at_all false = refl

      go : (o : Option ℕ) → swapper e p ≡ o → (sent_positions (exchanges (leg_ops g m e shows p)) ≤ g.size) × (send_count (exchanges (leg_ops g m e shows p)) ≤ m + 1)
      go None w =
          let a = folds_most (merge_gives u p) (u.takes p) in
          let two = ap rounds w in
          let b : sent_positions (exchanges (rounds (swapper e p))) ≡ 0 = ap (λ z. sent_positions (exchanges z)) two in
          let c : send_count (exchanges (rounds (swapper e p))) ≡ 0 = ap (λ z. send_count (exchanges z)) two in
          let d : sent_positions (exchanges (final_ops g f p)) ≤ span_if (swapper e p) = final_positions g f p in
          let d2 : span_if (swapper e p) ≡ 0 = ap span_if w in
          let k = final_count g f p in
          let k2 : send_count (exchanges (final_ops g f p)) ≡ 0 = k ∙ (ap count_if w ∙ none_at_all (p == shows)) in
          let m1 = measured (merge_ops g u p ++ rounds (swapper e p)) (final_ops g f p) in
          let m2 = measured (merge_ops g u p) (rounds (swapper e p)) in
          let n1 = counted (merge_ops g u p ++ rounds (swapper e p)) (final_ops g f p) in
          let n2 = counted (merge_ops g u p) (rounds (swapper e p)) in
          let a0 = a.0 in
          let a1 = a.1 in
          (omega (arith, a1, b, d, d2, m1, m2), omega (arith, a0, c, k2, n1, n2))
      go (Some s) w =
          let z = swaps g e (two_e g m e shows is) p s l w in
          let gives = keeps_own g m e shows is team p s z.0 in
          let none = folds_none (u.takes p) in
          let a0 : send_count (exchanges (merge_ops g u p)) ≡ 0 = ap (λ t. send_count (exchanges (merge_of t))) gives ∙ none.0 in
          let a1 : sent_positions (exchanges (merge_ops g u p)) ≡ 0 = ap (λ t. sent_positions (exchanges (merge_of t))) gives ∙ none.1 in
          let two = ap rounds w in
          let b : sent_positions (exchanges (rounds (swapper e p))) + ((range g.size m s).1 - (range g.size m s).0) ≡ g.size = ap (λ y. sent_positions (exchanges y) + ((range g.size m s).1 - (range g.size m s).0)) two ∙ swaps_positions h s m in
          let c : send_count (exchanges (rounds (swapper e p))) ≡ 1 * m = ap (λ y. send_count (exchanges y)) two ∙ swaps_count h s m in
          let d : sent_positions (exchanges (final_ops g f p)) ≤ span_if (swapper e p) = final_positions g f p in
          let d2 : span_if (swapper e p) ≡ (range g.size m s).1 - (range g.size m s).0 = ap span_if w in
          let k = final_count g f p in
          let k2 = one_at_most (p == shows) (f.holds p) in
          let m1 = measured (merge_ops g u p ++ rounds (swapper e p)) (final_ops g f p) in
          let m2 = measured (merge_ops g u p) (rounds (swapper e p)) in
          let n1 = counted (merge_ops g u p ++ rounds (swapper e p)) (final_ops g f p) in
          let n2 = counted (merge_ops g u p) (rounds (swapper e p)) in
          (omega (arith, a1, b, d, d2, m1, m2), omega (arith, a0, c, k, k2, n1, n2))
