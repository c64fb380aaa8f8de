-- All that a plan needs of a leg of binary swap.
use Rattle.std.proofs.Common.{◌≡◌, ◌≢◌, ℕ, suc, ◌+◌, ◌*◌, ◌<◌, [], ◌++◌, length, refl, sym, ap, ◌∙◌, subst, Option, Some, None}
use Rattle.std.specs.List.{AllByRecursion, filter, slice_get}
use Rattle.icet_model.specs.Fit.{Tiles}
use Rattle.icet_model.specs.Plan.{has_place}
use Rattle.icet_plan.specs.Each.{each}
use Rattle.icet_legs.specs.Team.{Team, IsTeam, by_pos}
use Rattle.icet_legs.specs.Merge.{merge_ops}
use Rattle.icet_legs.specs.Collect.{Final, final_ops}
use Rattle.icet_legs.proofs.Positions.{OnTiles}
use Rattle.icet_legs.proofs.Loads.{LoadNothing, nothing_both, nothing_collect, nothing_each, nothing_merge}
use Rattle.icet_bswap.proofs.SwapInOrder.{bswap_in_order}
use Rattle.icet_legs.proofs.LegFacts.{MakesLeg, final_carries}
use Rattle.icet_legs.proofs.Others.{AreOther, others_both, others_each, others_merge, others_collect}
use Rattle.icet_bswap.specs.Bswap.{IsSwap, folding, seat, swapper, swappers, partner, swap_ops, bswap_bracket, finals, leg_ops, leg_kept, bswap_ops, bswap_messages, bswap_kept}
use Rattle.icet_bswap.proofs.Folding.{is_folding, sits, swaps}
use Rattle.icet_bswap.proofs.HalvingIsRadix.{partner_within, partner_differs}
use Rattle.icet_bswap.proofs.LegRuns.{two_e, many, leg_part, leg_runs}
use Rattle.icet_bswap.proofs.FinalPieces.{keeps_once}

module _ (g : Team) (team : IsTeam g) (m e shows : ℕ) (is : IsSwap g m e shows) where
  abbrev h : Team
  h = swappers g e

  abbrev f : Final
  f = finals g m e shows

  -- a swapper's exchanges are with its partners
  others_swap : (p : ℕ) → p < g.n → (o : Option ℕ) → swapper e p ≡ o → AreOther g p (by_pos [] (λ s. each (λ i. swap_ops h i s) m) o)
  others_swap p l None w = tt
  others_swap p l (Some s) w = others_each g p (λ i. swap_ops h i s) m (λ i k.
      let n = many g m e shows is in
      let z = swaps g e (two_e g m e shows is) p s l w in
      let t = partner_within h m n i s k z.1 in
      let there = sits g e (two_e g m e shows is) (partner i s) t in
      let apart : seat e (partner i s) ≢ p = λ x. partner_differs h m n i s (let y : Some (partner i s) ≡ Some s = sym there.1 ∙ (ap (swapper e) x ∙ w) in let v : partner i s ≡ s = cc in v) in (
        record { at = seat e (partner i s); peer = refl; within = there.0; other = apart },
        (record { at = seat e (partner i s); peer = refl; within = there.0; other = apart }, tt),
      ))

  others : (p : ℕ) → p < g.n → AreOther g p (leg_ops g m e shows p)
  others p l =
      let swapping = by_pos [] (λ s. each (λ i. swap_ops h i s) m) (swapper e p) in
      others_both g p (merge_ops g (folding g e) p ++ swapping) (final_ops g f p)
      (others_both g p (merge_ops g (folding g e) p) swapping (others_merge g (folding g e) (is_folding g e (two_e g m e shows is)) p l) (others_swap p l (swapper e p) refl))
      (others_collect g f is.shown p l)

  pub others_by_rank : (r p : ℕ) → g.pos r ≡ Some p → AreOther g p (bswap_ops g m e shows r)
  others_by_rank r p k = subst (λ o. AreOther g p (by_pos [] (leg_ops g m e shows) o)) (sym k) (others p (team.forth r p k).1)

  pub outside : (r : ℕ) → g.pos r ≡ None → bswap_ops g m e shows r ≡ []
  outside r k = ap (by_pos [] (leg_ops g m e shows)) k

  loads_swap : (o : Option ℕ) → LoadNothing (by_pos [] (λ s. each (λ i. swap_ops h i s) m) o)
  loads_swap None = tt
  loads_swap (Some s) = nothing_each (λ i. swap_ops h i s) m (λ i. (tt, (tt, (tt, (tt, tt)))))

  loads_by_rank : (o : Option ℕ) → LoadNothing (by_pos [] (leg_ops g m e shows) o)
  loads_by_rank None = tt
  loads_by_rank (Some p) =
      let swapping = by_pos [] (λ s. each (λ i. swap_ops h i s) m) (swapper e p) in
      nothing_both (merge_ops g (folding g e) p ++ swapping) (final_ops g f p) (nothing_both (merge_ops g (folding g e) p) swapping (nothing_merge g (folding g e) p) (loads_swap (swapper e p))) (nothing_collect g f p)

  module _ (tiles : Tiles) (on : OnTiles tiles g) (display : slice_get tiles.displays g.tile ≡ Some (g.who shows)) where
    pub bswap_makes_leg : MakesLeg tiles g shows (bswap_bracket g e) (2 * g.first) (2 * suc (suc (g.first + m))) (bswap_ops g m e shows) (bswap_messages g m e shows) (bswap_kept g m e shows)
    bswap_makes_leg = record {
      part = leg_part g m e shows is team;
      others = others_by_rank;
      outside = outside;
      no_loads = λ r. loads_by_rank (g.pos r);
      in_order = λ r. bswap_in_order g team m e shows is r;
      runs = λ r before has. let ran = leg_runs g m e shows is team tiles on display r before has in record { after = ran.after; does = ran.does; holds = tt };
      carries = λ r. kept_by r (g.pos r);
      once = λ i l. ap (λ o. length (filter (has_place g.tile i) (by_pos [] (leg_kept g m e shows) o))) (team.back shows is.shown) ∙ keeps_once g team m e shows is i l;
    }
      where
        kept_by : (r : ℕ) (o : Option ℕ) → AllByRecursion (λ p. (p.tile ≡ g.tile) × (p.content ≡ bswap_bracket g e)) (by_pos [] (leg_kept g m e shows) o)
        kept_by r None = tt
        kept_by r (Some p) = final_carries g f p
