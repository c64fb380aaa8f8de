-- A participant of the tree sends one message at most.
use Rattle.std.proofs.Common.{◌≡◌, ◌≢◌, ℕ, zero, suc, ◌+◌, ◌-◌, ◌*◌, ◌/◌, ◌%◌, ◌^◌, ◌<◌, ◌≤◌, Bool, true, false, cond, [], ◌∷◌, refl, sym, ap, ◌∙◌, subst, arith, eqb-true, inl, inr, ⊎_elim}
use Rattle.std.proofs.Math.Nat.{div-add-mod, pow-succ', zero-mod}
use Rattle.std.proofs.lemmas.Nat.{mod-mul-add, pow_pos}
use Rattle.std.specs.Prelude.{◌==◌, ◌⊎◌}
use Rattle.icet_model.specs.declared.exchange.Kind.TheVariants.{Send, Take}
use Rattle.icet_model.specs.declared.exchange.Op.TheVariants.{Join, Swap}
use Rattle.icet_model.specs.Exchange.{exchanges}
use Rattle.icet_plan.specs.Each.{each}
use Rattle.icet_legs.specs.Collect.{final_ops}
use Rattle.icet_legs.specs.Sends.{send_count}
use Rattle.icet_legs.specs.Team.{Team}
use Rattle.icet_legs.proofs.Sends.{counted, final_count}
use Rattle.icet_tree.specs.Tree.{gives, takes, tree_final, tree_ops, tree_program, tree_swap}
use Rattle.icet_tree.proofs.TreeRounds.{gives_says, takes_says}

-- who gives in a round is w further on than a multiple of 2 w
gives_at : (w p : ℕ) → 0 < w → w ≤ p → (p - w) % (2 * w) ≡ 0 → (p % w ≡ 0) × (p % (2 * w) ≡ w)
gives_at w p some l e =
    let d = div-add-mod (p - w) (2 * w) in
    let c = (p - w) / (2 * w) in
    let one : p ≡ c * (2 * w) + w = omega (arith, d, e, l) in
    let two : c * (2 * w) + w ≡ (2 * c + 1) * w + 0 = omega arith in (
      ap (λ z. z % w) (one ∙ two) ∙ mod-mul-add (2 * c + 1) w 0 some,
      ap (λ z. z % (2 * w)) one ∙ mod-mul-add c (2 * w) w (omega (arith, some)),
    )

-- no multiple of w is no multiple of 2 w
stays : (w p : ℕ) → 0 < w → p % w ≢ 0 → p % (2 * w) ≢ 0
stays w p some n e =
    let d = div-add-mod p (2 * w) in
    let c = p / (2 * w) in
    let one : p ≡ (2 * c) * w + 0 = omega (arith, d, e) in
    n (ap (λ z. z % w) one ∙ mod-mul-add (2 * c) w 0 some)

module _ (g : Team) (p : ℕ) where
  round_count : (i : ℕ) → send_count (exchanges (tree_ops g i p)) ≡ cond (gives g.n (2 ^ i) p) 1 0
  round_count i = go (gives g.n (2 ^ i) p) (takes g.n (2 ^ i) p)
    where
      go : (x y : Bool) → send_count (exchanges (cond x (Swap (tree_swap g i Send (p - 2 ^ i)) 0 ∷ []) (cond y (Swap (tree_swap g i Take (p + 2 ^ i)) 1 ∷ Join 0 1 0 ∷ []) []))) ≡ cond x 1 0
      go true y = refl
      go false true = refl
      go false false = refl

  -- so far it has sent nothing, or one message, and then its position is no multiple of what comes
  rounds_count : (k : ℕ) → (send_count (exchanges (each (λ i. tree_ops g i p) k)) ≡ 0) ⊎ ((send_count (exchanges (each (λ i. tree_ops g i p) k)) ≡ 1) × (p % 2 ^ k ≢ 0))
  rounds_count zero = inl refl
  rounds_count (suc k) = go (gives g.n (2 ^ k) p) refl (rounds_count k)
    where
      wide : 0 < 2 ^ k
      wide = pow_pos k

      both : send_count (exchanges (each (λ i. tree_ops g i p) (suc k))) ≡ send_count (exchanges (each (λ i. tree_ops g i p) k)) + cond (gives g.n (2 ^ k) p) 1 0
      both = let a = counted (each (λ i. tree_ops g i p) k) (tree_ops g k p) in let b = round_count k in omega (arith, a, b)

      added : Bool → ℕ
      added t = cond t 1 0

      go : (t : Bool) → gives g.n (2 ^ k) p ≡ t → (send_count (exchanges (each (λ i. tree_ops g i p) k)) ≡ 0) ⊎ ((send_count (exchanges (each (λ i. tree_ops g i p) k)) ≡ 1) × (p % 2 ^ k ≢ 0)) → (send_count (exchanges (each (λ i. tree_ops g i p) (suc k))) ≡ 0) ⊎ ((send_count (exchanges (each (λ i. tree_ops g i p) (suc k))) ≡ 1) × (p % 2 ^ suc k ≢ 0))
      go false e past =
          let z : cond (gives g.n (2 ^ k) p) 1 0 ≡ added false = ap added e in
          ⊎_elim
          (λ (a : send_count (exchanges (each (λ i. tree_ops g i p) k)) ≡ 0). inl (let b = both in omega (arith, a, b, z)))
          (λ (a : (send_count (exchanges (each (λ i. tree_ops g i p) k)) ≡ 1) × (p % 2 ^ k ≢ 0)). inr (
            let b = both in let c = a.0 in omega (arith, b, c, z),
            subst (λ w. p % w ≢ 0) (sym (pow-succ' 2 k)) (stays (2 ^ k) p wide a.1),
          ))
          past
      go true e past =
          let z : cond (gives g.n (2 ^ k) p) 1 0 ≡ added true = ap added e in
          let f = gives_says g.n (2 ^ k) p e in
          let at = gives_at (2 ^ k) p wide f.high (takes_says g.n (2 ^ k) (p - 2 ^ k) f.taking).even in
          ⊎_elim
          (λ (a : send_count (exchanges (each (λ i. tree_ops g i p) k)) ≡ 0). inr (
            let b = both in omega (arith, a, b, z),
            subst (λ w. p % w ≢ 0) (sym (pow-succ' 2 k)) (λ m. let c = at.1 in absurd (omega (arith, c, m, wide))),
          ))
          (λ (a : (send_count (exchanges (each (λ i. tree_ops g i p) k)) ≡ 1) × (p % 2 ^ k ≢ 0)). absurd (a.1 at.0))
          past

  pub sends_once : (q shows : ℕ) → send_count (exchanges (tree_program g q shows p)) ≤ 1
  sends_once q shows = go (p == 0) refl
    where
      total : send_count (exchanges (tree_program g q shows p)) ≡ send_count (exchanges (each (λ i. tree_ops g i p) q)) + send_count (exchanges (final_ops g (tree_final g q shows) p))
      total = counted (each (λ i. tree_ops g i p) q) (final_ops g (tree_final g q shows) p)

      last : Bool → ℕ
      last t = cond (p == shows) 0 (cond t 1 0)

      last_low : (x t : Bool) → cond x 0 (cond t 1 0) ≤ 1
      last_low true t = omega arith
      last_low false true = omega arith
      last_low false false = omega arith

      last_none : (x : Bool) → cond x 0 (cond false 1 0) ≤ 0
      last_none true = omega arith
      last_none false = omega arith

      go : (t : Bool) → (p == 0) ≡ t → send_count (exchanges (tree_program g q shows p)) ≤ 1
      go true e = ⊎_elim
          (λ (a : send_count (exchanges (each (λ i. tree_ops g i p) q)) ≡ 0). let b = total in let c = final_count g (tree_final g q shows) p in let d = last_low (p == shows) (p == 0) in omega (arith, a, b, c, d))
          (λ (a : (send_count (exchanges (each (λ i. tree_ops g i p) q)) ≡ 1) × (p % 2 ^ q ≢ 0)). absurd (a.1 (let s = eqb-true p 0 e in ap (λ z. z % 2 ^ q) s ∙ zero-mod (2 ^ q))))
          (rounds_count q)
      go false e =
          let c : send_count (exchanges (final_ops g (tree_final g q shows) p)) ≡ last (p == 0) = final_count g (tree_final g q shows) p in
          let d : last (p == 0) ≡ last false = ap last e in
          let n : last false ≤ 0 = last_none (p == shows) in
          let b = total in
          ⊎_elim
          (λ (a : send_count (exchanges (each (λ i. tree_ops g i p) q)) ≡ 0). omega (arith, a, b, c, d, n))
          (λ (a : (send_count (exchanges (each (λ i. tree_ops g i p) q)) ≡ 1) × (p % 2 ^ q ≢ 0)). let f = a.0 in omega (arith, f, b, c, d, n))
          (rounds_count q)
