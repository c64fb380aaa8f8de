-- The exchanges of a leg of radix-k stand in order.
use Rattle.std.proofs.Common.{◌≡◌, ℕ, suc, ◌+◌, ◌*◌, ◌<◌, [], refl, arith, Option, Some, None}
use Rattle.icet_model.specs.Exchange.{exchanges}
use Rattle.icet_legs.specs.Team.{Team, IsTeam, by_pos}
use Rattle.icet_legs.specs.Collect.{collect_ops, final_ops}
use Rattle.icet_legs.specs.Group.{group_ops}
use Rattle.icet_legs.specs.Order.{AreInOrder}
use Rattle.icet_legs.specs.Radix.{group_at, radix_ops}
use Rattle.icet_legs.proofs.CollectMatched.{collect_part}
use Rattle.icet_legs.proofs.InOrder.{order_collect, order_ops}
use Rattle.icet_legs.proofs.RadixInOrder.{order_group, order_radix}
use Rattle.icet_legs.proofs.Radixes.{AreFactors, is_group, radix_part}
use Rattle.icet_radixk.specs.Radixk.{AreFactorsOf, radix_finals, radix_leg_ops}
use Rattle.icet_radixk.proofs.Folded.{factors_are}

module _ (g : Team) (team : IsTeam g) (factor : ℕ → ℕ) (q : ℕ) (of : AreFactorsOf g.n factor q) (shows : ℕ) (shown : shows < g.n) (r : ℕ) where
  factors : AreFactors g factor q
  factors = factors_are g factor q of

  one : (i : ℕ) → i < q → (o : Option ℕ) → g.pos r ≡ o → AreInOrder g.pos (exchanges (by_pos [] (group_ops g (group_at g factor i)) o))
  one i l None k = tt
  one i l (Some p) k = order_group g team (group_at g factor i) (is_group g factor q factors i l) p (team.forth r p k).1

  collecting : (o : Option ℕ) → AreInOrder g.pos (exchanges (by_pos [] (final_ops g (radix_finals g factor q shows)) o))
  collecting None = tt
  collecting (Some p) = order_collect g team (radix_finals g factor q shows) p

  pub radix_in_order : AreInOrder g.pos (exchanges (radix_leg_ops g factor q shows r))
  radix_in_order = order_ops g.pos (2 * (g.first + 0)) (2 * (g.first + q)) (2 * suc (g.first + q)) (radix_ops g factor q r) (collect_ops g (radix_finals g factor q shows) r)
      (order_radix g.pos g team factor q factors r (λ i l. one i l (g.pos r) refl) q (omega arith)) (collecting (g.pos r))
      ((radix_part g factor q factors team q (omega arith)).within r) ((collect_part g team (radix_finals g factor q shows) shown).within r)
