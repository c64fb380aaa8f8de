-- The exchanges of a leg of binary swap stand in order.
use Rattle.std.proofs.Common.{◌≡◌, ℕ, suc, ◌+◌, ◌*◌, [], ◌++◌, sym, subst, arith, Option, Some, None, inl}
use Rattle.icet_model.specs.Exchange.{exchanges}
use Rattle.icet_plan.proofs.Segments.{IsPart, parts_join}
use Rattle.icet_legs.specs.Team.{Team, IsTeam, by_pos}
use Rattle.icet_legs.specs.Merge.{merge_ops}
use Rattle.icet_legs.specs.Collect.{Final, collect_ops, final_ops}
use Rattle.icet_legs.specs.Group.{group_ops}
use Rattle.icet_legs.specs.Radix.{group_at, radix_ops}
use Rattle.icet_legs.specs.Order.{AreInOrder}
use Rattle.icet_legs.proofs.CollectMatched.{collect_part}
use Rattle.icet_legs.proofs.InOrder.{order_collect, order_merge, order_ops}
use Rattle.icet_legs.proofs.Merges.{merge_part}
use Rattle.icet_legs.proofs.RadixInOrder.{order_radix}
use Rattle.icet_legs.proofs.Radixes.{radix_part}
use Rattle.icet_bswap.specs.Bswap.{IsSwap, bswap_ops, finals, folding, swappers}
use Rattle.icet_bswap.proofs.Folding.{is_folding, swappers_team}
use Rattle.icet_bswap.proofs.HalvingIsRadix.{ops_are, twos}
use Rattle.icet_bswap.proofs.LegRuns.{factors, many, two_e, ops_are as parts_are}

module _ (g : Team) (team : IsTeam g) (m e shows : ℕ) (is : IsSwap g m e shows) (r : ℕ) where
  abbrev h : Team
  h = swappers g e

  abbrev f : Final
  f = finals g m e shows

  -- a round: a send, and then a take
  one : (i : ℕ) (o : Option ℕ) → AreInOrder g.pos (exchanges (by_pos [] (group_ops h (group_at h twos i)) o))
  one i None = tt
  one i (Some s) = subst (λ ops. AreInOrder g.pos (exchanges ops)) (sym (ops_are h m (many g m e shows is) i s)) ((inl (omega arith), tt), (tt, tt))

  merging : (o : Option ℕ) → AreInOrder g.pos (exchanges (by_pos [] (merge_ops g (folding g e)) o))
  merging None = tt
  merging (Some p) = order_merge g.pos g (folding g e) p

  collecting : (o : Option ℕ) → AreInOrder g.pos (exchanges (by_pos [] (final_ops g f) o))
  collecting None = tt
  collecting (Some p) = order_collect g team f p

  pub bswap_in_order : AreInOrder g.pos (exchanges (bswap_ops g m e shows r))
  bswap_in_order =
      let a : suc g.first + 0 ≡ suc g.first = omega arith in
      let b : suc g.first + m ≡ suc (g.first + m) = omega arith in
      let swapping = swappers_team g e (two_e g m e shows is) team in
      let rounds : IsPart (radix_ops h twos m) (2 * suc g.first) (2 * suc (g.first + m)) = subst (λ x. IsPart (radix_ops h twos m) (2 * x) (2 * suc (g.first + m))) a (subst (λ x. IsPart (radix_ops h twos m) (2 * (suc g.first + 0)) (2 * x)) b (radix_part h twos m (factors g m e shows is) swapping m (omega arith))) in
      let first : IsPart (λ q. by_pos [] (merge_ops g (folding g e)) (g.pos q)) (2 * g.first) (2 * suc g.first) = merge_part g team (folding g e) (is_folding g e (two_e g m e shows is)) in
      let last : IsPart (collect_ops g f) (2 * suc (g.first + m)) (2 * suc (suc (g.first + m))) = collect_part g team f is.shown in
      let two = parts_join (λ q. by_pos [] (merge_ops g (folding g e)) (g.pos q)) (radix_ops h twos m) (2 * g.first) (2 * suc g.first) (2 * suc (g.first + m)) first rounds in
      let front : AreInOrder g.pos (exchanges (by_pos [] (merge_ops g (folding g e)) (g.pos r) ++ radix_ops h twos m r)) =
      order_ops g.pos (2 * g.first) (2 * suc g.first) (2 * suc (g.first + m)) (by_pos [] (merge_ops g (folding g e)) (g.pos r)) (radix_ops h twos m r) (merging (g.pos r))
      (order_radix g.pos h swapping twos m (factors g m e shows is) r (λ i l. one i (h.pos r)) m (omega arith)) (first.within r) (rounds.within r) in
      subst (λ ops. AreInOrder g.pos (exchanges ops)) (parts_are g m e shows is r)
      (order_ops g.pos (2 * g.first) (2 * suc (g.first + m)) (2 * suc (suc (g.first + m))) (by_pos [] (merge_ops g (folding g e)) (g.pos r) ++ radix_ops h twos m r) (collect_ops g f r) front (collecting (g.pos r)) (two.within r) (last.within r))
