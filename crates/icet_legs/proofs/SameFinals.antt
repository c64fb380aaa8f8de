-- The collection depends on the participants' final pieces alone, and on their ranges where they hold one.
use Rattle.std.proofs.Common.{◌≡◌, ℕ, ◌+◌, ◌*◌, ◌<◌, ◌≤◌, Bool, true, false, cond, List, [], ◌∷◌, ◌++◌, length, length-append, refl, sym, ap, ◌∙◌, arith}
use Rattle.std.specs.Prelude.{◌==◌, ◌&&◌, not}
use Rattle.icet_model.specs.declared.exchange.Kind.{Kind}
use Rattle.icet_model.specs.declared.exchange.Kind.TheVariants.{Send, Take}
use Rattle.icet_model.specs.declared.exchange.Exchange.{Exchange}
use Rattle.icet_model.specs.declared.exchange.Op.{Op}
use Rattle.icet_model.specs.declared.exchange.Op.TheVariants.{Keep, Swap}
use Rattle.icet_plan.specs.Each.{each}
use Rattle.icet_legs.specs.Collect.{Final, fetch_ops, final_ops, final_swap, hands_in, own_ops}
use Rattle.icet_legs.specs.Team.{Team}
use Rattle.icet_legs.proofs.EachMore.{each_length, each_same}

abbrev fetch_if : ℕ → Bool → ℕ → Exchange → List Op
fetch_if b t s e = cond (t && not (b == s)) (Swap e 1 ∷ Keep 1 ∷ []) []

abbrev final_if : ℕ → List Op → List Op → Bool → ℕ → Exchange → List Op
final_if p own fetched t s e = cond (p == s) (own ++ fetched) (cond t (Swap e 0 ∷ []) [])

pub record AreSame (n : ℕ) (f h : Final) : Type 0 where
  pub round : f.round ≡ h.round
  pub shows : f.shows ≡ h.shows
  pub holds : (a : ℕ) → a < n → f.holds a ≡ h.holds a
  pub lo : (a : ℕ) → a < n → f.holds a ≡ true → f.lo a ≡ h.lo a
  pub hi : (a : ℕ) → a < n → f.holds a ≡ true → f.hi a ≡ h.hi a

module _ (g : Team) (f h : Final) (same : AreSame g.n f h) (shown : f.shows < g.n) where
  swap_same : (k : Kind) (t u a : ℕ) → t ≡ u → a < g.n → f.holds a ≡ true → final_swap g f k t a ≡ final_swap g h k u a
  swap_same k t u a e l w =
      let lo = same.lo a l w in
      let hi = same.hi a l w in
      λ j. record { round = same.round j; kind = k; peer = g.who (e j); tile = g.tile; lo = lo j; hi = hi j }

  fetch_same : (b : ℕ) → b < g.n → fetch_ops g f b ≡ fetch_ops g h b
  fetch_same b l = go (f.holds b) refl
    where
      go : (t : Bool) → f.holds b ≡ t → fetch_if b (f.holds b) f.shows (final_swap g f Take b b) ≡ fetch_if b (h.holds b) h.shows (final_swap g h Take b b)
      go false w = ap (λ t. fetch_if b t f.shows (final_swap g f Take b b)) w ∙ sym (ap (λ t. fetch_if b t h.shows (final_swap g h Take b b)) (sym (same.holds b l) ∙ w))
      go true w = let e = swap_same Take b b b refl l w in let k = same.holds b l in λ j. fetch_if b (k j) (same.shows j) (e j)

  own_same : own_ops f ≡ own_ops h
  own_same = ap (λ t. cond t (Keep 0 ∷ []) []) (same.holds f.shows shown ∙ ap h.holds same.shows)

  pub same_final_ops : (p : ℕ) → p < g.n → final_ops g f p ≡ final_ops g h p
  same_final_ops p l = go (f.holds p) refl
    where
      fetched : each (fetch_ops g f) g.n ≡ each (fetch_ops g h) g.n
      fetched = each_same (fetch_ops g f) (fetch_ops g h) g.n fetch_same

      go : (t : Bool) → f.holds p ≡ t → final_if p (own_ops f) (each (fetch_ops g f) g.n) (f.holds p) f.shows (final_swap g f Send f.shows p) ≡ final_if p (own_ops h) (each (fetch_ops g h) g.n) (h.holds p) h.shows (final_swap g h Send h.shows p)
      go false w =
          ap (λ t. final_if p (own_ops f) (each (fetch_ops g f) g.n) t f.shows (final_swap g f Send f.shows p)) w
          ∙ ((λ j. final_if p (own_same j) (fetched j) false (same.shows j) (final_swap g f Send f.shows p))
          ∙ sym (ap (λ t. final_if p (own_ops h) (each (fetch_ops g h) g.n) t h.shows (final_swap g h Send h.shows p)) (sym (same.holds p l) ∙ w)))
      go true w = let e = swap_same Send f.shows h.shows p same.shows l w in let k = same.holds p l in λ j. final_if p (own_same j) (fetched j) (k j) (same.shows j) (e j)

-- how long a participant's part of the collection is
pub final_length : (g : Team) (f : Final) (p : ℕ) → length (final_ops g f p) ≤ 1 + 2 * g.n
final_length g f p = go (p == f.shows) (f.holds p)
  where
    own : (t : Bool) → length (cond t (Keep 0 ∷ []) []) ≤ 1
    own true = omega arith
    own false = omega arith

    fetch : (b : ℕ) (t : Bool) → length (cond t (Swap (final_swap g f Take b b) 1 ∷ Keep 1 ∷ []) []) ≤ 2
    fetch b true = omega arith
    fetch b false = omega arith

    go : (x y : Bool) → length (cond x (own_ops f ++ each (fetch_ops g f) g.n) (cond y (Swap (final_swap g f Send f.shows p) 0 ∷ []) [])) ≤ 1 + 2 * g.n
    go true y = let a = own (f.holds f.shows) in let b = each_length (fetch_ops g f) 2 g.n (λ b l. fetch b (hands_in f b)) in let e = length-append (own_ops f) (each (fetch_ops g f) g.n) in omega (arith, a, b, e)
    go false true = omega arith
    go false false = omega arith
