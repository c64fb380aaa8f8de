-- Each exchange of a leg is with another participant.
use Rattle.std.proofs.Common.{◌≡◌, ◌≢◌, ℕ, zero, suc, ◌+◌, ◌-◌, ◌<◌, Bool, true, false, cond, List, [], ◌∷◌, ◌++◌, refl, sym, ap, ◌∙◌, subst, arith, Some, eq-eqb, eqb-true}
use Rattle.std.specs.Prelude.{◌==◌, not}
use Rattle.std.specs.List.{AllByRecursion}
use Rattle.icet_model.specs.declared.exchange.Kind.TheVariants.{Send, Take}
use Rattle.icet_model.specs.declared.exchange.Exchange.{Exchange}
use Rattle.icet_model.specs.declared.exchange.Op.{Op}
use Rattle.icet_model.specs.declared.exchange.Op.TheVariants.{Join, Keep, Swap}
use Rattle.icet_model.specs.Exchange.{exchanges}
use Rattle.icet_model.specs.Matched.{HasPeerIn}
use Rattle.icet_plan.specs.Each.{each}
use Rattle.icet_plan.proofs.Lists.{all_weaker}
use Rattle.icet_plan.proofs.LocalRuns.{exchanges-append}
use Rattle.icet_plan.proofs.Segments.{all_append}
use Rattle.icet_legs.specs.Team.{Team, IsTeam}
use Rattle.icet_legs.specs.Merge.{Merge, merge_gives, merge_ops, merge_swap}
use Rattle.icet_legs.specs.Collect.{Final, final_ops, final_swap, fetch_ops, own_ops, hands_in}
use Rattle.icet_legs.proofs.Tests.{and_parts}
use Rattle.icet_legs.proofs.Merges.{IsMerge, gives_says}

-- the peer of an exchange of the participant at p is the one at another position
pub record IsOther (g : Team) (p : ℕ) (e : Exchange) : Type 0 where
  pub at : ℕ
  pub peer : e.peer ≡ g.who at
  pub within : at < g.n
  pub other : at ≢ p

abbrev pub AreOther : Team → ℕ → List Op → Type 0
AreOther g p ops = AllByRecursion (IsOther g p) (exchanges ops)

pub others_both : (g : Team) (p : ℕ) (xs ys : List Op) → AreOther g p xs → AreOther g p ys → AreOther g p (xs ++ ys)
others_both g p xs ys f h = subst (AllByRecursion (IsOther g p)) (sym (exchanges-append xs ys)) (all_append (IsOther g p) (exchanges xs) (exchanges ys) f h)

pub others_each : (g : Team) (p : ℕ) (ops : ℕ → List Op) (k : ℕ) → ((b : ℕ) → b < k → AreOther g p (ops b)) → AreOther g p (each ops k)
others_each g p ops zero h = tt
others_each g p ops (suc k) h = others_both g p (each ops k) (ops k) (others_each g p ops k (λ b l. h b (omega arith))) (h k (omega arith))

pub others_merge : (g : Team) (u : Merge) → IsMerge g u → (p : ℕ) → p < g.n → AreOther g p (merge_ops g u p)
others_merge g u is p l = go (merge_gives u p) refl (u.takes p) refl
  where
    go : (x : Bool) → merge_gives u p ≡ x → (y : Bool) → u.takes p ≡ y → AreOther g p (cond x (Swap (merge_swap g u Send (p - u.w)) 0 ∷ []) (cond y (Swap (merge_swap g u Take (p + u.w)) 1 ∷ Join 0 1 0 ∷ []) []))
    go true q y t = let f = (gives_says u p q).back in let m = is.moves in (record { at = p - u.w; peer = refl; within = omega (arith, f, l); other = λ s. absurd (omega (arith, s, f, m)) }, tt)
    go false q true t = let m = is.moves in (record { at = p + u.w; peer = refl; within = is.inside p t; other = λ s. absurd (omega (arith, s, m)) }, tt)
    go false q false t = tt

not_equal : (a b : ℕ) → not (a == b) ≡ true → a ≢ b
not_equal a b h e = absurd (let z : not (a == b) ≡ false = ap not (eq-eqb a b e) in cc)

pub others_collect : (g : Team) (f : Final) → f.shows < g.n → (p : ℕ) → p < g.n → AreOther g p (final_ops g f p)
others_collect g f shown p l = go (p == f.shows) refl (f.holds p) refl
  where
    own : (t : Bool) → AreOther g p (cond t (Keep 0 ∷ []) [])
    own true = tt
    own false = tt

    fetch : p ≡ f.shows → (b : ℕ) → b < g.n → (t : Bool) → hands_in f b ≡ t → AreOther g p (cond t (Swap (final_swap g f Take b b) 1 ∷ Keep 1 ∷ []) [])
    fetch s b m true h = (record { at = b; peer = refl; within = m; other = λ z. not_equal b f.shows (and_parts (f.holds b) (not (b == f.shows)) h).1 (z ∙ s) }, tt)
    fetch s b m false h = tt

    go : (x : Bool) → (p == f.shows) ≡ x → (y : Bool) → f.holds p ≡ y → AreOther g p (cond x (own_ops f ++ each (fetch_ops g f) g.n) (cond y (Swap (final_swap g f Send f.shows p) 0 ∷ []) []))
    go true s y h = others_both g p (own_ops f) (each (fetch_ops g f) g.n) (own (f.holds f.shows)) (others_each g p (fetch_ops g f) g.n (λ b m. fetch (eqb_says s) b m (hands_in f b) refl))
      where
        eqb_says : (p == f.shows) ≡ true → p ≡ f.shows
        eqb_says k = eqb-true p f.shows k
    go false s true h = (record { at = f.shows; peer = refl; within = shown; other = λ z. absurd (let k = eq-eqb p f.shows (sym z) in cc) }, tt)
    go false s false h = tt

-- where the participants are ranks of the plan
pub others_are : (g : Team) → IsTeam g → (ranks : ℕ) → ((p : ℕ) → p < g.n → g.who p < ranks) → (r p : ℕ) → g.pos r ≡ Some p → (es : List Exchange) → AllByRecursion (IsOther g p) es → AllByRecursion (HasPeerIn ranks r) es
others_are g team ranks who r p k es h = all_weaker (IsOther g p) (HasPeerIn ranks r) (λ e o. record {
  within = let a = o.peer in let b = who o.at o.within in omega (arith, a, b);
  other = λ s.
      let back = team.back o.at o.within in
      let same : g.pos (g.who o.at) ≡ g.pos r = ap g.pos (sym o.peer ∙ s) in
      let one : Some o.at ≡ Some p = sym back ∙ (same ∙ k) in
      o.other (let z : o.at ≡ p = cc in z);
}) es h
