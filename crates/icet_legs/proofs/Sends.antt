-- How much the parts of a program send.
use Rattle.std.proofs.Common.{◌≡◌, ℕ, zero, suc, ◌+◌, ◌-◌, ◌*◌, ◌<◌, ◌≤◌, Bool, true, false, cond, List, [], ◌∷◌, ◌++◌, refl, ap, ◌∙◌, arith}
use Rattle.std.specs.Prelude.{◌==◌}
use Rattle.icet_model.specs.declared.exchange.Kind.TheVariants.{Send, Take}
use Rattle.icet_model.specs.declared.exchange.Exchange.{Exchange}
use Rattle.icet_model.specs.declared.exchange.Op.{Op}
use Rattle.icet_model.specs.declared.exchange.Op.TheVariants.{Keep, Swap}
use Rattle.icet_model.specs.Exchange.{exchanges}
use Rattle.icet_plan.specs.Each.{each}
use Rattle.icet_plan.proofs.LocalRuns.{exchanges-append}
use Rattle.icet_legs.specs.Collect.{Final, fetch_ops, final_ops, final_swap, hands_in, own_ops}
use Rattle.icet_legs.specs.Sends.{send_count, sent_positions}
use Rattle.icet_legs.specs.Team.{Team}

count_both : (es fs : List Exchange) → send_count (es ++ fs) ≡ send_count es + send_count fs
count_both [] fs = omega arith
count_both (e ∷ es) fs = let h = count_both es fs in omega (arith, h)

positions_both : (es fs : List Exchange) → sent_positions (es ++ fs) ≡ sent_positions es + sent_positions fs
positions_both [] fs = omega arith
positions_both (e ∷ es) fs = let h = positions_both es fs in omega (arith, h)

-- of operations one behind the other
pub counted : (xs ys : List Op) → send_count (exchanges (xs ++ ys)) ≡ send_count (exchanges xs) + send_count (exchanges ys)
counted xs ys = ap send_count (exchanges-append xs ys) ∙ count_both (exchanges xs) (exchanges ys)

pub measured : (xs ys : List Op) → sent_positions (exchanges (xs ++ ys)) ≡ sent_positions (exchanges xs) + sent_positions (exchanges ys)
measured xs ys = ap sent_positions (exchanges-append xs ys) ∙ positions_both (exchanges xs) (exchanges ys)

pub counted_each : (ops : ℕ → List Op) (c k : ℕ) → ((i : ℕ) → i < k → send_count (exchanges (ops i)) ≡ c) → send_count (exchanges (each ops k)) ≡ c * k
counted_each ops c zero h = omega arith
counted_each ops c (suc k) h = let a = counted (each ops k) (ops k) in let b = counted_each ops c k (λ i l. h i (omega arith)) in let d = h k (omega arith) in omega (arith, a, b, d)

-- a participant sends its final piece, if it has one and isn't the display
module _ (g : Team) (f : Final) (p : ℕ) where
  fetches : (k : ℕ) → (send_count (exchanges (each (fetch_ops g f) k)) ≡ 0) × (sent_positions (exchanges (each (fetch_ops g f) k)) ≡ 0)
  fetches zero = (refl, refl)
  fetches (suc k) =
      let past = fetches k in
      let one = fetch (hands_in f k) in
      let a = counted (each (fetch_ops g f) k) (fetch_ops g f k) in
      let b = measured (each (fetch_ops g f) k) (fetch_ops g f k) in
      let c = past.0 in
      let d = past.1 in
      let u = one.0 in
      let v = one.1 in
      (omega (arith, a, c, u), omega (arith, b, d, v))
    where
      fetch : (t : Bool) → (send_count (exchanges (cond t (Swap (final_swap g f Take k k) 1 ∷ Keep 1 ∷ []) [])) ≡ 0) × (sent_positions (exchanges (cond t (Swap (final_swap g f Take k k) 1 ∷ Keep 1 ∷ []) [])) ≡ 0)
      fetch true = (refl, refl)
      fetch false = (refl, refl)

  own : (t : Bool) → (send_count (exchanges (cond t (Keep 0 ∷ []) [])) ≡ 0) × (sent_positions (exchanges (cond t (Keep 0 ∷ []) [])) ≡ 0)
  own true = (refl, refl)
  own false = (refl, refl)

  pub final_count : send_count (exchanges (final_ops g f p)) ≡ cond (p == f.shows) 0 (cond (f.holds p) 1 0)
  final_count = go (p == f.shows) (f.holds p)
    where
      go : (x y : Bool) → send_count (exchanges (cond x (own_ops f ++ each (fetch_ops g f) g.n) (cond y (Swap (final_swap g f Send f.shows p) 0 ∷ []) []))) ≡ cond x 0 (cond y 1 0)
      go true y = let a = counted (own_ops f) (each (fetch_ops g f) g.n) in let b = (own (f.holds f.shows)).0 in let c = (fetches g.n).0 in omega (arith, a, b, c)
      go false true = refl
      go false false = refl

  pub final_positions : sent_positions (exchanges (final_ops g f p)) ≤ cond (f.holds p) (f.hi p - f.lo p) 0
  final_positions = go (p == f.shows) (f.holds p)
    where
      go : (x y : Bool) → sent_positions (exchanges (cond x (own_ops f ++ each (fetch_ops g f) g.n) (cond y (Swap (final_swap g f Send f.shows p) 0 ∷ []) []))) ≤ cond y (f.hi p - f.lo p) 0
      go true y = let a = measured (own_ops f) (each (fetch_ops g f) g.n) in let b = (own (f.holds f.shows)).1 in let c = (fetches g.n).1 in omega (arith, a, b, c)
      go false true = omega arith
      go false false = omega arith
