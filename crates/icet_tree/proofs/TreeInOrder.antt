-- The exchanges of a leg of the tree strategy stand in order.
use Rattle.std.proofs.Common.{ℕ, zero, suc, ◌+◌, ◌-◌, ◌*◌, ◌^◌, ◌<◌, Bool, true, false, cond, [], ◌∷◌, Option, Some, None}
use Rattle.icet_model.specs.declared.exchange.Kind.TheVariants.{Send, Take}
use Rattle.icet_model.specs.declared.exchange.Op.TheVariants.{Join, Swap}
use Rattle.icet_model.specs.Exchange.{exchanges}
use Rattle.icet_legs.specs.Team.{Team, IsTeam, by_pos}
use Rattle.icet_legs.specs.Collect.{collect_ops, final_ops}
use Rattle.icet_legs.specs.Order.{AreInOrder}
use Rattle.icet_tree.specs.Tree.{gives, round_ops, rounds_ops, takes, tree_final, tree_leg_ops, tree_ops, tree_swap}
use Rattle.icet_legs.proofs.CollectMatched.{collect_part}
use Rattle.icet_legs.proofs.InOrder.{order_collect, order_ops}
use Rattle.icet_tree.proofs.TreeRounds.{round_part, rounds_part}

module _ (g : Team) (team : IsTeam g) (r : ℕ) where
  one : (i : ℕ) (o : Option ℕ) → AreInOrder g.pos (exchanges (by_pos [] (tree_ops g i) o))
  one i None = tt
  one i (Some p) = go (gives g.n (2 ^ i) p) (takes g.n (2 ^ i) p)
    where
      go : (x y : Bool) → AreInOrder g.pos (exchanges (cond x (Swap (tree_swap g i Send (p - 2 ^ i)) 0 ∷ []) (cond y (Swap (tree_swap g i Take (p + 2 ^ i)) 1 ∷ Join 0 1 0 ∷ []) [])))
      go true y = (tt, tt)
      go false true = (tt, tt)
      go false false = tt

  rounds : (k : ℕ) → AreInOrder g.pos (exchanges (rounds_ops g k r))
  rounds zero = tt
  rounds (suc k) = order_ops g.pos (2 * (g.first + 0)) (2 * (g.first + k)) (2 * (g.first + suc k)) (rounds_ops g k r) (round_ops g k r) (rounds k) (one k (g.pos r)) ((rounds_part g team k).within r) ((round_part g team k).within r)

  collecting : (q shows : ℕ) (o : Option ℕ) → AreInOrder g.pos (exchanges (by_pos [] (final_ops g (tree_final g q shows)) o))
  collecting q shows None = tt
  collecting q shows (Some p) = order_collect g team (tree_final g q shows) p

  pub tree_in_order : (q shows : ℕ) → shows < g.n → AreInOrder g.pos (exchanges (tree_leg_ops g q shows r))
  tree_in_order q shows l = order_ops g.pos (2 * (g.first + 0)) (2 * (g.first + q)) (2 * suc (g.first + q)) (rounds_ops g q r) (collect_ops g (tree_final g q shows) r) (rounds q) (collecting q shows (g.pos r)) ((rounds_part g team q).within r) ((collect_part g team (tree_final g q shows) l).within r)
