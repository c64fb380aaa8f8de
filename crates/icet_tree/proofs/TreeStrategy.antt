-- The tree makes legs.
use Rattle.std.proofs.Common.{◌≡◌, ℕ, zero, suc, ◌+◌, ◌*◌, ◌<◌, [], ◌++◌, refl, ap, ◌∙◌, subst, arith, Option, Some, None}
use mathlib.Core.Path.{fun_ext}
use Rattle.icet_model.specs.Fit.{Tiles}
use Rattle.icet_plan.specs.Each.{each}
use Rattle.icet_legs.specs.Collect.{collect_messages, collect_ops, final_messages, final_ops}
use Rattle.icet_legs.specs.Leg.{AreRanks, IsLeg, IsTileOf}
use Rattle.icet_legs.specs.Pairing.{tree}
use Rattle.icet_legs.specs.Powers.{ceil_log2}
use Rattle.icet_legs.specs.Team.{Team, IsTeam, by_pair, by_pos}
use Rattle.icet_legs.specs.TileStrategy.{kept_of, leaves_of, messages_of, ops_of}
use Rattle.icet_legs.proofs.LegAlone.{makes_leg}
use Rattle.icet_legs.proofs.LegFacts.{MakesLeg}
use Rattle.icet_legs.proofs.PowersOfTwo.{ceil_below, ceil_high}
use Rattle.icet_tree.specs.Tree.{rounds_messages, rounds_ops, tree_final, tree_leg_messages, tree_leg_ops, tree_messages, tree_ops, tree_program, tree_sent, tree_strategy}
use Rattle.icet_tree.proofs.TreeMakesLeg.{tree_bracket, tree_makes_leg}

module _ (g : Team) where
  rounds_at : (k r : ℕ) (o : Option ℕ) → g.pos r ≡ o → rounds_ops g k r ≡ by_pos [] (λ p. each (λ i. tree_ops g i p) k) o
  rounds_at zero r None e = refl
  rounds_at zero r (Some p) e = refl
  rounds_at (suc k) r o e =
      ap (λ z. z ++ by_pos [] (tree_ops g k) (g.pos r)) (rounds_at k r o e)
      ∙ (ap (λ z. by_pos [] (λ p. each (λ i. tree_ops g i p) k) o ++ by_pos [] (tree_ops g k) z) e ∙ both o)
    where
      both : (o : Option ℕ) → by_pos [] (λ p. each (λ i. tree_ops g i p) k) o ++ by_pos [] (tree_ops g k) o ≡ by_pos [] (λ p. each (λ i. tree_ops g i p) (suc k)) o
      both None = refl
      both (Some p) = refl

  sent_at : (k q r : ℕ) (o u : Option ℕ) → g.pos q ≡ o → g.pos r ≡ u → rounds_messages g k q r ≡ by_pair (λ a b. each (λ i. tree_messages g i a b) k) o u
  sent_at zero q r None u e f = refl
  sent_at zero q r (Some a) None e f = refl
  sent_at zero q r (Some a) (Some b) e f = refl
  sent_at (suc k) q r o u e f =
      ap (λ z. z ++ by_pair (tree_messages g k) (g.pos q) (g.pos r)) (sent_at k q r o u e f)
      ∙ (ap (λ z. by_pair (λ a b. each (λ i. tree_messages g i a b) k) o u ++ by_pair (tree_messages g k) z (g.pos r)) e
      ∙ (ap (λ z. by_pair (λ a b. each (λ i. tree_messages g i a b) k) o u ++ by_pair (tree_messages g k) o z) f ∙ both o u))
    where
      both : (o u : Option ℕ) → by_pair (λ a b. each (λ i. tree_messages g i a b) k) o u ++ by_pair (tree_messages g k) o u ≡ by_pair (λ a b. each (λ i. tree_messages g i a b) (suc k)) o u
      both None u = refl
      both (Some a) None = refl
      both (Some a) (Some b) = refl

  abbrev q : ℕ
  q = ceil_log2 g.n

  ops_are : (shows : ℕ) → tree_leg_ops g q shows ≡ ops_of tree_strategy g shows
  ops_are shows = fun_ext (λ r. ap (λ z. z ++ collect_ops g (tree_final g q shows) r) (rounds_at q r (g.pos r) refl) ∙ both (g.pos r))
    where
      both : (o : Option ℕ) → by_pos [] (λ p. each (λ i. tree_ops g i p) q) o ++ by_pos [] (final_ops g (tree_final g q shows)) o ≡ by_pos [] (tree_program g q shows) o
      both None = refl
      both (Some p) = refl

  messages_are : (shows : ℕ) → tree_leg_messages g q shows ≡ messages_of tree_strategy g shows
  messages_are shows = fun_ext (λ a. fun_ext (λ b. ap (λ z. z ++ collect_messages g (tree_final g q shows) a b) (sent_at q a b (g.pos a) (g.pos b) refl refl) ∙ both (g.pos a) (g.pos b)))
    where
      both : (o u : Option ℕ) → by_pair (λ a b. each (λ i. tree_messages g i a b) q) o u ++ by_pair (final_messages g (tree_final g q shows)) o u ≡ by_pair (tree_sent g q shows) o u
      both None u = refl
      both (Some a) None = refl
      both (Some a) (Some b) = refl

  module _ (team : IsTeam g) (shows : ℕ) (shown : shows < g.n) (tiles : Tiles) (of : IsTileOf tiles g shows) where
    as_strategy : MakesLeg tiles g shows (tree (leaves_of g)) (2 * g.first) (2 * (g.first + suc q)) (ops_of tree_strategy g shows) (messages_of tree_strategy g shows) (kept_of tree_strategy g shows)
    as_strategy =
        let some : 0 < g.n = omega (arith, shown) in
        let b = tree_bracket g q some (ceil_high g.n some) (ceil_below g.n some) in
        let x : 2 * (g.first + 0) ≡ 2 * g.first = omega arith in
        let y : 2 * suc (g.first + q) ≡ 2 * (g.first + suc q) = omega arith in
        let is = tree_makes_leg g team q shows shown some tiles (record { tile = of.tile; size = of.size }) of.display in
        subst (λ ms. MakesLeg tiles g shows (tree (leaves_of g)) (2 * g.first) (2 * (g.first + suc q)) (ops_of tree_strategy g shows) ms (kept_of tree_strategy g shows)) (messages_are shows)
        (subst (λ ops. MakesLeg tiles g shows (tree (leaves_of g)) (2 * g.first) (2 * (g.first + suc q)) ops (tree_leg_messages g q shows) (kept_of tree_strategy g shows)) (ops_are shows)
        (subst (λ l. MakesLeg tiles g shows (tree (leaves_of g)) l (2 * (g.first + suc q)) (tree_leg_ops g q shows) (tree_leg_messages g q shows) (kept_of tree_strategy g shows)) x
        (subst (λ u. MakesLeg tiles g shows (tree (leaves_of g)) (2 * (g.first + 0)) u (tree_leg_ops g q shows) (tree_leg_messages g q shows) (kept_of tree_strategy g shows)) y
        (subst (λ z. MakesLeg tiles g shows z (2 * (g.first + 0)) (2 * suc (g.first + q)) (tree_leg_ops g q shows) (tree_leg_messages g q shows) (kept_of tree_strategy g shows)) b is))))

    pub tree_is_leg : (ranks : ℕ) → AreRanks ranks g → IsLeg tiles ranks g (suc q) (tree (leaves_of g)) (ops_of tree_strategy g shows) (messages_of tree_strategy g shows) (kept_of tree_strategy g shows)
    tree_is_leg ranks ranked = makes_leg tiles ranks g team shows of ranked (suc q) (tree (leaves_of g)) (ops_of tree_strategy g shows) (messages_of tree_strategy g shows) (kept_of tree_strategy g shows) as_strategy
