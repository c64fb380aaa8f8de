-- Radix-k makes legs.
use Rattle.std.proofs.Common.{◌≡◌, ℕ, zero, suc, ◌+◌, ◌*◌, ◌<◌, [], ◌++◌, length, refl, sym, ap, ◌∙◌, subst, arith, Option, Some, None}
use Rattle.std.proofs.lemmas.List.FromFn.{length-map-range_with_len}
use mathlib.Core.Path.{fun_ext}
use Rattle.icet_model.specs.Fit.{Tiles}
use Rattle.icet_plan.specs.Each.{each}
use Rattle.icet_legs.specs.Collect.{collect_messages, collect_ops, final_messages, final_ops}
use Rattle.icet_legs.specs.Group.{group_messages, group_ops}
use Rattle.icet_legs.specs.Leg.{AreRanks, IsLeg, IsTileOf}
use Rattle.icet_legs.specs.Radix.{group_at, radix_messages, radix_ops}
use Rattle.icet_legs.specs.Team.{Team, IsTeam, by_pair, by_pos}
use Rattle.icet_legs.specs.TileStrategy.{kept_of, leaves_of, messages_of, ops_of}
use Rattle.icet_legs.proofs.LegAlone.{makes_leg}
use Rattle.icet_legs.proofs.LegFacts.{MakesLeg}
use Rattle.icet_radixk.specs.Factors.{factor_at, factors}
use Rattle.icet_radixk.specs.Radixk.{radix_bracket, radix_finals, radix_leg_kept, radix_leg_messages, radix_leg_ops, radix_program, radix_sent, radix_strategy}
use Rattle.icet_radixk.proofs.FactorLists.{factors_of}
use Rattle.icet_radixk.proofs.RadixMakesLeg.{radix_makes_leg}

module _ (g : Team) (factor : ℕ → ℕ) where
  rounds_at : (k r : ℕ) (o : Option ℕ) → g.pos r ≡ o → radix_ops g factor k r ≡ by_pos [] (λ p. each (λ i. group_ops g (group_at g factor i) p) k) o
  rounds_at zero r None e = refl
  rounds_at zero r (Some p) e = refl
  rounds_at (suc k) r o e =
      ap (λ z. z ++ by_pos [] (group_ops g (group_at g factor k)) (g.pos r)) (rounds_at k r o e)
      ∙ (ap (λ z. by_pos [] (λ p. each (λ i. group_ops g (group_at g factor i) p) k) o ++ by_pos [] (group_ops g (group_at g factor k)) z) e ∙ both o)
    where
      both : (o : Option ℕ) → by_pos [] (λ p. each (λ i. group_ops g (group_at g factor i) p) k) o ++ by_pos [] (group_ops g (group_at g factor k)) o ≡ by_pos [] (λ p. each (λ i. group_ops g (group_at g factor i) p) (suc k)) o
      both None = refl
      both (Some p) = refl

  sent_at : (k q r : ℕ) (o u : Option ℕ) → g.pos q ≡ o → g.pos r ≡ u → radix_messages g factor k q r ≡ by_pair (λ a b. each (λ i. group_messages g (group_at g factor i) a b) k) o u
  sent_at zero q r None u e f = refl
  sent_at zero q r (Some a) None e f = refl
  sent_at zero q r (Some a) (Some b) e f = refl
  sent_at (suc k) q r o u e f =
      ap (λ z. z ++ by_pair (group_messages g (group_at g factor k)) (g.pos q) (g.pos r)) (sent_at k q r o u e f)
      ∙ (ap (λ z. by_pair (λ a b. each (λ i. group_messages g (group_at g factor i) a b) k) o u ++ by_pair (group_messages g (group_at g factor k)) z (g.pos r)) e
      ∙ (ap (λ z. by_pair (λ a b. each (λ i. group_messages g (group_at g factor i) a b) k) o u ++ by_pair (group_messages g (group_at g factor k)) o z) f ∙ both o u))
    where
      both : (o u : Option ℕ) → by_pair (λ a b. each (λ i. group_messages g (group_at g factor i) a b) k) o u ++ by_pair (group_messages g (group_at g factor k)) o u ≡ by_pair (λ a b. each (λ i. group_messages g (group_at g factor i) a b) (suc k)) o u
      both None u = refl
      both (Some a) None = refl
      both (Some a) (Some b) = refl

  module _ (q shows : ℕ) where
    pub ops_are : radix_leg_ops g factor q shows ≡ (λ r. by_pos [] (radix_program g factor q shows) (g.pos r))
    ops_are = fun_ext (λ r. ap (λ z. z ++ collect_ops g (radix_finals g factor q shows) r) (rounds_at q r (g.pos r) refl) ∙ both (g.pos r))
      where
        both : (o : Option ℕ) → by_pos [] (λ p. each (λ i. group_ops g (group_at g factor i) p) q) o ++ by_pos [] (final_ops g (radix_finals g factor q shows)) o ≡ by_pos [] (radix_program g factor q shows) o
        both None = refl
        both (Some p) = refl

    pub messages_are : radix_leg_messages g factor q shows ≡ (λ a b. by_pair (radix_sent g factor q shows) (g.pos a) (g.pos b))
    messages_are = fun_ext (λ a. fun_ext (λ b. ap (λ z. z ++ collect_messages g (radix_finals g factor q shows) a b) (sent_at q a b (g.pos a) (g.pos b) refl refl) ∙ both (g.pos a) (g.pos b)))
      where
        both : (o u : Option ℕ) → by_pair (λ a b. each (λ i. group_messages g (group_at g factor i) a b) q) o u ++ by_pair (final_messages g (radix_finals g factor q shows)) o u ≡ by_pair (radix_sent g factor q shows) o u
        both None u = refl
        both (Some a) None = refl
        both (Some a) (Some b) = refl

module _ (k : ℕ) (g : Team) (team : IsTeam g) (shows : ℕ) (shown : shows < g.n) (tiles : Tiles) (of : IsTileOf tiles g shows) where
  abbrev factor : ℕ → ℕ
  factor = factor_at (factors k g.n)

  abbrev q : ℕ
  q = length (factors k g.n)

  bracket_is : radix_bracket factor q (leaves_of g) ≡ (radix_strategy k).bracket (leaves_of g)
  bracket_is = ap (λ n. radix_bracket (factor_at (factors k n)) (length (factors k n)) (leaves_of g)) (sym (length-map-range_with_len g.leaf 0 g.n))

  as_strategy : MakesLeg tiles g shows ((radix_strategy k).bracket (leaves_of g)) (2 * g.first) (2 * (g.first + suc q)) (ops_of (radix_strategy k) g shows) (messages_of (radix_strategy k) g shows) (kept_of (radix_strategy k) g shows)
  as_strategy =
      let some : 0 < g.n = omega (arith, shown) in
      let x : 2 * (g.first + 0) ≡ 2 * g.first = omega arith in
      let y : 2 * suc (g.first + q) ≡ 2 * (g.first + suc q) = omega arith in
      let is = radix_makes_leg g team factor q (factors_of k g.n some) shows shown tiles (record { tile = of.tile; size = of.size }) of.display in
      subst (λ b. MakesLeg tiles g shows b (2 * g.first) (2 * (g.first + suc q)) (ops_of (radix_strategy k) g shows) (messages_of (radix_strategy k) g shows) (kept_of (radix_strategy k) g shows)) bracket_is
      (subst (λ ms. MakesLeg tiles g shows (radix_bracket factor q (leaves_of g)) (2 * g.first) (2 * (g.first + suc q)) (ops_of (radix_strategy k) g shows) ms (kept_of (radix_strategy k) g shows)) (messages_are g factor q shows)
      (subst (λ ops. MakesLeg tiles g shows (radix_bracket factor q (leaves_of g)) (2 * g.first) (2 * (g.first + suc q)) ops (radix_leg_messages g factor q shows) (kept_of (radix_strategy k) g shows)) (ops_are g factor q shows)
      (subst (λ l. MakesLeg tiles g shows (radix_bracket factor q (leaves_of g)) l (2 * (g.first + suc q)) (radix_leg_ops g factor q shows) (radix_leg_messages g factor q shows) (radix_leg_kept g factor q shows)) x
      (subst (λ u. MakesLeg tiles g shows (radix_bracket factor q (leaves_of g)) (2 * (g.first + 0)) u (radix_leg_ops g factor q shows) (radix_leg_messages g factor q shows) (radix_leg_kept g factor q shows)) y is))))

  pub radix_is_leg : (ranks : ℕ) → AreRanks ranks g → IsLeg tiles ranks g (suc q) ((radix_strategy k).bracket (leaves_of g)) (ops_of (radix_strategy k) g shows) (messages_of (radix_strategy k) g shows) (kept_of (radix_strategy k) g shows)
  radix_is_leg ranks ranked = makes_leg tiles ranks g team shows of ranked (suc q) ((radix_strategy k).bracket (leaves_of g)) (ops_of (radix_strategy k) g shows) (messages_of (radix_strategy k) g shows) (kept_of (radix_strategy k) g shows) as_strategy
