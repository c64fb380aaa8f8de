-- The tree by neighbours is the tree by halves.
use Rattle.std.proofs.Common.{◌≡◌, ℕ, zero, suc, ◌+◌, ◌*◌, ◌^◌, ◌<◌, ◌≤◌, cond, [], ◌∷◌, refl, sym, ap, ◌∙◌, arith, ⊎_elim}
use Rattle.std.proofs.lemmas.Nat.{pow_pos}
use Rattle.std.proofs.Math.Nat.{pow-succ'}
use Rattle.icet_legs.proofs.Tests.{below_test, past_test, split}
use Rattle.icet_legs.specs.Team.{Team}
use Rattle.icet_legs.specs.Pairing.{pair_up, paired}
use Rattle.icet_tree.specs.Tree.{level, tree_of}
use Rattle.icet_model.specs.declared.bracket.Bracket.TheVariants.{Pair}

module _ (g : Team) (i : ℕ) where
  level_past : (k p : ℕ) → g.n ≤ p → level g i k p ≡ []
  level_past zero p l = refl
  level_past (suc k) p l = ap (λ z. cond z (tree_of g p i ∷ level g i k (p + 2 ^ i)) []) (past_test p g.n l)

  level_on : (k p : ℕ) → p < g.n → level g i (suc k) p ≡ tree_of g p i ∷ level g i k (p + 2 ^ i)
  level_on k p l = ap (λ z. cond z (tree_of g p i ∷ level g i k (p + 2 ^ i)) []) (below_test p g.n l)

pair_level : (g : Team) (i k j p : ℕ) → g.n ≤ p + k → g.n ≤ p + j → pair_up (level g i k p) ≡ level g (suc i) j p
pair_level g i zero j p l u = sym (level_past g (suc i) j p (omega arith))
pair_level g i (suc k) zero p l u = ap pair_up (level_past g i (suc k) p (omega arith))
pair_level g i (suc zero) (suc j) p l u = ⊎_elim
    (λ (b : p < g.n).
    let w = pow_pos i in
    let alone : tree_of g p (suc i) ≡ tree_of g p i = ap (λ z. cond z (Pair (tree_of g p i) (tree_of g (p + 2 ^ i) i)) (tree_of g p i)) (past_test (p + 2 ^ i) g.n (omega (arith, w, l))) in
    let v = pow_pos (suc i) in
    ap pair_up (level_on g i zero p b) ∙ (sym (ap (λ z. z ∷ []) alone) ∙ (ap (λ z. tree_of g p (suc i) ∷ z) (sym (level_past g (suc i) j (p + 2 ^ suc i) (omega (arith, v, l)))) ∙ sym (level_on g (suc i) j p b))))
    (λ (b : g.n ≤ p). ap pair_up (level_past g i 1 p b) ∙ sym (level_past g (suc i) (suc j) p b))
    (split p g.n)
pair_level g i (suc (suc k)) (suc j) p l u = ⊎_elim
    (λ (b : p < g.n). ⊎_elim
    (λ (d : p + 2 ^ i < g.n).
    let w = pow_pos i in
    let two : 2 ^ suc i ≡ 2 * 2 ^ i = pow-succ' 2 i in
    let both : tree_of g p (suc i) ≡ Pair (tree_of g p i) (tree_of g (p + 2 ^ i) i) = ap (λ z. cond z (Pair (tree_of g p i) (tree_of g (p + 2 ^ i) i)) (tree_of g p i)) (below_test (p + 2 ^ i) g.n d) in
    let step : (p + 2 ^ i) + 2 ^ i ≡ p + 2 ^ suc i = omega (arith, two) in
    let rest = pair_level g i k j (p + 2 ^ suc i) (omega (arith, two, w, l)) (omega (arith, two, w, u)) in
    ap pair_up (level_on g i (suc k) p b ∙ ap (λ z. tree_of g p i ∷ z) (level_on g i k (p + 2 ^ i) d ∙ ap (λ z. tree_of g (p + 2 ^ i) i ∷ level g i k z) step))
    ∙ (ap (λ z. Pair (tree_of g p i) (tree_of g (p + 2 ^ i) i) ∷ z) rest
    ∙ (ap (λ z. z ∷ level g (suc i) j (p + 2 ^ suc i)) (sym both) ∙ sym (level_on g (suc i) j p b))))
    (λ (d : g.n ≤ p + 2 ^ i).
    let two : 2 ^ suc i ≡ 2 * 2 ^ i = pow-succ' 2 i in
    let alone : tree_of g p (suc i) ≡ tree_of g p i = ap (λ z. cond z (Pair (tree_of g p i) (tree_of g (p + 2 ^ i) i)) (tree_of g p i)) (past_test (p + 2 ^ i) g.n d) in
    ap pair_up (level_on g i (suc k) p b ∙ ap (λ z. tree_of g p i ∷ z) (level_past g i (suc k) (p + 2 ^ i) d))
    ∙ (sym (ap (λ z. z ∷ []) alone) ∙ (ap (λ z. tree_of g p (suc i) ∷ z) (sym (level_past g (suc i) j (p + 2 ^ suc i) (omega (arith, two, d)))) ∙ sym (level_on g (suc i) j p b))))
    (split (p + 2 ^ i) g.n))
    (λ (b : g.n ≤ p). ap pair_up (level_past g i (suc (suc k)) p b) ∙ sym (level_past g (suc i) (suc j) p b))
    (split p g.n)

-- after so many rounds of pairing
paired_is : (g : Team) (m : ℕ) → paired m (level g 0 g.n 0) ≡ level g m g.n 0
paired_is g zero = refl
paired_is g (suc m) = ap pair_up (paired_is g m) ∙ pair_level g m g.n g.n 0 (omega arith) (omega arith)

pub tree_is : (g : Team) (m : ℕ) → 0 < g.n → g.n ≤ 2 ^ m → paired m (level g 0 g.n 0) ≡ tree_of g 0 m ∷ []
tree_is g m some l = paired_is g m ∙ one g.n refl
  where
    one : (k : ℕ) → g.n ≡ k → level g m k 0 ≡ tree_of g 0 m ∷ []
    one zero e = absurd (omega arith)
    one (suc k) e = level_on g m k 0 some ∙ ap (λ z. tree_of g 0 m ∷ z) (level_past g m k (0 + 2 ^ m) (omega arith))
