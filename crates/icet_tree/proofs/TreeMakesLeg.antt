-- All that a plan needs of a leg of the tree strategy.
use Rattle.std.proofs.Common.{◌≡◌, ℕ, zero, suc, ◌+◌, ◌-◌, ◌*◌, ◌^◌, ◌<◌, ◌≤◌, Bool, true, false, cond, List, [], ◌∷◌, ◌++◌, map, length, refl, sym, ap, ◌∙◌, subst, arith, Option, Some, None, eqb-true, eq-eqb}
use Rattle.std.proofs.lemmas.Nat.{pow_pos}
use Rattle.std.proofs.lemmas.Bool.Decides.{nat_tests}
use Rattle.std.proofs.lemmas.List.FromFn.{length-map-range_with_len}
use Rattle.std.specs.Prelude.{◌==◌, ◌&&◌, nat_le, nat_lt}
use Rattle.std.specs.List.{AllByRecursion, filter, range_with_len, slice_get}
use mathlib.Core.Path.{fun_ext}
use Rattle.icet_model.specs.declared.bracket.Bracket.{Bracket}
use Rattle.icet_model.specs.declared.exchange.Kind.TheVariants.{Send, Take}
use Rattle.icet_model.specs.declared.exchange.Op.TheVariants.{Join, Swap}
use Rattle.icet_model.specs.Run.{MessageView, Piece}
use Rattle.icet_model.specs.Fit.{Tiles}
use Rattle.icet_model.specs.Plan.{bracket_carrier, has_place}
use Rattle.icet_plan.proofs.Segments.{Does, does_nothing}
use Rattle.icet_plan.proofs.SingleSteps.{Ran, does_as}
use Rattle.icet_plan.proofs.PlanRows.{Anyhow}
use Rattle.icet_legs.specs.Team.{Team, IsTeam, by_pos, by_pair}
use Rattle.icet_legs.specs.Collect.{collect_messages, collect_ops, final_kept, final_messages, final_ops, final_piece}
use Rattle.icet_legs.specs.Pairing.{paired, tree}
use Rattle.icet_tree.specs.Tree.{gives, level, rounds_messages, rounds_ops, round_messages, round_ops, takes, tree_final, tree_leg_kept, tree_leg_messages, tree_leg_ops, tree_of, tree_ops, tree_swap, tree_messages}
use Rattle.icet_legs.proofs.Tests.{and_both, below_test}
use Rattle.icet_legs.proofs.Positions.{OnTiles}
use Rattle.icet_legs.proofs.Pairings.{row, same_pairs, until_is}
use Rattle.icet_tree.proofs.TreeRounds.{gives_says, takes_says}
use Rattle.icet_tree.proofs.TreeFolds.{tree_is}
use Rattle.icet_tree.proofs.TreeLegs.{tree_leg, tree_leg_part}
use Rattle.icet_legs.proofs.Once.{kept_once}
use Rattle.icet_legs.proofs.Others.{AreOther, others_both, others_collect}
use Rattle.icet_legs.proofs.Loads.{LoadNothing, nothing_both, nothing_collect}
use Rattle.icet_tree.proofs.TreeInOrder.{tree_in_order}
use Rattle.icet_model.specs.declared.exchange.Op.{Op}
use Rattle.icet_legs.proofs.LegFacts.{MakesLeg, final_carries}

-- the bracket: neighbours are paired until one is left
level_is : (g : Team) (k p : ℕ) → p + k ≤ g.n → level g 0 k p ≡ row g.leaf p k
level_is g zero p l = refl
level_is g (suc k) p l =
    ap (λ t. cond t (g.leaf p ∷ level g 0 k (p + 1)) []) (below_test p g.n (omega arith))
    ∙ ap (λ xs. g.leaf p ∷ xs) (level_is g k (p + 1) (omega arith))

pub tree_bracket : (g : Team) (m : ℕ) → 0 < g.n → g.n ≤ 2 ^ m → m ≤ g.n → tree_of g 0 m ≡ tree (map g.leaf (range_with_len 0 g.n))
tree_bracket g m some high low =
    let long = length-map-range_with_len g.leaf 0 g.n in
    let all : paired m (row g.leaf 0 g.n) ≡ tree_of g 0 m ∷ [] = ap (paired m) (sym (level_is g g.n 0 (omega arith))) ∙ tree_is g m some high in
    sym (until_is (length (row g.leaf 0 g.n)) m (row g.leaf 0 g.n) (tree_of g 0 m) (omega (arith, long, low)) (sym (same_pairs m (row g.leaf 0 g.n)) ∙ all))

module _ (g : Team) (team : IsTeam g) (m shows : ℕ) (shown : shows < g.n) (some : 0 < g.n) where
  others_round : (i p : ℕ) → p < g.n → AreOther g p (tree_ops g i p)
  others_round i p l = go (gives g.n (2 ^ i) p) refl (takes g.n (2 ^ i) p) refl
    where
      go : (x : Bool) → gives g.n (2 ^ i) p ≡ x → (y : Bool) → takes g.n (2 ^ i) p ≡ y → AreOther g p (cond x (Swap (tree_swap g i Send (p - 2 ^ i)) 0 ∷ []) (cond y (Swap (tree_swap g i Take (p + 2 ^ i)) 1 ∷ Join 0 1 0 ∷ []) []))
      go true q y t = let f = (gives_says g.n (2 ^ i) p q).high in let w = pow_pos i in (record { at = p - 2 ^ i; peer = refl; within = omega (arith, l); other = λ s. absurd (omega (arith, s, f, w)) }, tt)
      go false q true t = let f = (takes_says g.n (2 ^ i) p t).below in let w = pow_pos i in (record { at = p + 2 ^ i; peer = refl; within = f; other = λ s. absurd (omega (arith, s, w)) }, tt)
      go false q false t = tt

  others_rounds : (k r p : ℕ) → g.pos r ≡ Some p → AreOther g p (rounds_ops g k r)
  others_rounds zero r p e = tt
  others_rounds (suc k) r p e = others_both g p (rounds_ops g k r) (round_ops g k r) (others_rounds k r p e) (subst (λ o. AreOther g p (by_pos [] (tree_ops g k) o)) (sym e) (others_round k p (team.forth r p e).1))

  none_rounds : (k r : ℕ) → g.pos r ≡ None → rounds_ops g k r ≡ []
  none_rounds zero r e = refl
  none_rounds (suc k) r e = ap (λ z. z ++ round_ops g k r) (none_rounds k r e) ∙ ap (by_pos [] (tree_ops g k)) e

  none_ops : (r : ℕ) → g.pos r ≡ None → tree_leg_ops g m shows r ≡ []
  none_ops r e = ap (λ z. z ++ collect_ops g (tree_final g m shows) r) (none_rounds m r e) ∙ ap (by_pos [] (final_ops g (tree_final g m shows))) e

  loads_round : (i p : ℕ) → LoadNothing (tree_ops g i p)
  loads_round i p = go (gives g.n (2 ^ i) p) (takes g.n (2 ^ i) p)
    where
      go : (x y : Bool) → LoadNothing (cond x (Swap (tree_swap g i Send (p - 2 ^ i)) 0 ∷ []) (cond y (Swap (tree_swap g i Take (p + 2 ^ i)) 1 ∷ Join 0 1 0 ∷ []) []))
      go true y = (tt, tt)
      go false true = (tt, (tt, tt))
      go false false = tt

  loads_at : (ops : ℕ → List Op) → ((p : ℕ) → LoadNothing (ops p)) → (o : Option ℕ) → LoadNothing (by_pos [] ops o)
  loads_at ops h None = tt
  loads_at ops h (Some p) = h p

  loads_rounds : (k r : ℕ) → LoadNothing (rounds_ops g k r)
  loads_rounds zero r = tt
  loads_rounds (suc k) r = nothing_both (rounds_ops g k r) (round_ops g k r) (loads_rounds k r) (loads_at (tree_ops g k) (loads_round k) (g.pos r))

  no_loads : (r : ℕ) → LoadNothing (tree_leg_ops g m shows r)
  no_loads r = nothing_both (rounds_ops g m r) (collect_ops g (tree_final g m shows) r) (loads_rounds m r) (loads_at (final_ops g (tree_final g m shows)) (nothing_collect g (tree_final g m shows)) (g.pos r))

  none_to : (f : ℕ → ℕ → List (MessageView Bracket)) (o u : Option ℕ) → u ≡ None → by_pair f o u ≡ []
  none_to f None u e = refl
  none_to f (Some a) u e = ap (by_pos [] (f a)) e

  none_from : (f : ℕ → ℕ → List (MessageView Bracket)) (o u : Option ℕ) → o ≡ None → by_pair f o u ≡ []
  none_from f o u e = ap (λ z. by_pair f z u) e

  none_taken : (k q r : ℕ) → g.pos r ≡ None → rounds_messages g k q r ≡ []
  none_taken zero q r e = refl
  none_taken (suc k) q r e = ap (λ z. z ++ round_messages g k q r) (none_taken k q r e) ∙ none_to (tree_messages g k) (g.pos q) (g.pos r) e

  none_sent : (k q r : ℕ) → g.pos q ≡ None → rounds_messages g k q r ≡ []
  none_sent zero q r e = refl
  none_sent (suc k) q r e = ap (λ z. z ++ round_messages g k q r) (none_sent k q r e) ∙ none_from (tree_messages g k) (g.pos q) (g.pos r) e

  taken_none : (q r : ℕ) → g.pos r ≡ None → tree_leg_messages g m shows q r ≡ []
  taken_none q r e = ap (λ z. z ++ collect_messages g (tree_final g m shows) q r) (none_taken m q r e) ∙ none_to (final_messages g (tree_final g m shows)) (g.pos q) (g.pos r) e

  sent_none : (q r : ℕ) → g.pos q ≡ None → tree_leg_messages g m shows q r ≡ []
  sent_none q r e = ap (λ z. z ++ collect_messages g (tree_final g m shows) q r) (none_sent m q r e) ∙ none_from (final_messages g (tree_final g m shows)) (g.pos q) (g.pos r) e

  module _ (tiles : Tiles) (on : OnTiles tiles g) (display : slice_get tiles.displays g.tile ≡ Some (g.who shows)) where
    outside : (r : ℕ) (before : ℕ → Option (Piece Bracket)) → g.pos r ≡ None → Does (bracket_carrier tiles.sizes r) r tiles (tree_leg_ops g m shows r) (λ q. tree_leg_messages g m shows q r) before before (λ q. tree_leg_messages g m shows r q) []
    outside r before e = subst (λ xs. Does (bracket_carrier tiles.sizes r) r tiles xs (λ q. tree_leg_messages g m shows q r) before before (λ q. tree_leg_messages g m shows r q) []) (sym (none_ops r e))
        (does_as (bracket_carrier tiles.sizes r) r tiles [] (λ q. []) (λ q. tree_leg_messages g m shows q r) before before (λ q. []) (λ q. tree_leg_messages g m shows r q) [] (fun_ext (λ q. sym (taken_none q r e))) (fun_ext (λ q. sym (sent_none r q e)))
        (does_nothing (bracket_carrier tiles.sizes r) r tiles before))

    pub tree_makes_leg : MakesLeg tiles g shows (tree_of g 0 m) (2 * (g.first + 0)) (2 * suc (g.first + m)) (tree_leg_ops g m shows) (tree_leg_messages g m shows) (tree_leg_kept g m shows)
    tree_makes_leg = record {
      part = tree_leg_part g team m shows shown;
      others = λ r p e. others_both g p (rounds_ops g m r) (collect_ops g (tree_final g m shows) r) (others_rounds m r p e) (subst (λ o. AreOther g p (by_pos [] (final_ops g (tree_final g m shows)) o)) (sym e) (others_collect g (tree_final g m shows) shown p (team.forth r p e).1));
      outside = none_ops;
      no_loads = no_loads;
      in_order = λ r. tree_in_order g team r m shows shown;
      runs = λ r before has. go r before has (g.pos r) refl;
      carries = λ r. kept_of (g.pos r);
      once = λ i l. ap (λ o. length (filter (has_place g.tile i) (by_pos [] (final_kept g (tree_final g m shows)) o))) (team.back shows shown) ∙ kept_once g (tree_final g m shows) (has_place g.tile i) 0 some refl (λ b k w. one i l b (eqb-true b 0 w)) shown;
    }
      where
        go : (r : ℕ) (before : ℕ → Option (Piece Bracket)) → ((p : ℕ) → g.pos r ≡ Some p → before 0 ≡ Some (record { tile = g.tile; lo = 0; hi = g.size; content = g.leaf p })) → (o : Option ℕ) → g.pos r ≡ o → Ran (bracket_carrier tiles.sizes r) r tiles (Anyhow (bracket_carrier tiles.sizes r) r tiles) (tree_leg_ops g m shows r) (λ q. tree_leg_messages g m shows q r) before (λ q. tree_leg_messages g m shows r q) (by_pos [] (final_kept g (tree_final g m shows)) o)
        go r before has None e = record { after = before; does = outside r before e; holds = tt }
        go r before has (Some p) e = let ran = tree_leg tiles g team on m shows shown display r p e before (has p e) in record { after = ran.after; does = ran.does; holds = tt }

        kept_of : (o : Option ℕ) → AllByRecursion (λ x. (x.tile ≡ g.tile) × (x.content ≡ tree_of g 0 m)) (by_pos [] (final_kept g (tree_final g m shows)) o)
        kept_of None = tt
        kept_of (Some p) = final_carries g (tree_final g m shows) p

        inside : (i size : ℕ) → i < size → (nat_le 0 i && nat_lt i size) ≡ true
        inside i size l = grind (arith, nat_tests)

        one : (i : ℕ) → i < g.size → (b : ℕ) → b ≡ 0 → has_place g.tile i (final_piece g (tree_final g m shows) b) ≡ (b == 0)
        one i l b e = and_both (g.tile == g.tile) (nat_le 0 i && nat_lt i g.size) (eq-eqb g.tile g.tile refl) (inside i g.size l) ∙ sym (eq-eqb b 0 e)
