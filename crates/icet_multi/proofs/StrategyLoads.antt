-- No strategy for a tile loads an image: its participants begin with what they have.
use Rattle.std.proofs.Common.{ℕ, ◌+◌, ◌-◌, ◌^◌, Bool, true, false, cond, [], ◌∷◌, ◌++◌, length, Option, Some, None}
use Rattle.icet_model.specs.declared.exchange.Kind.TheVariants.{Send, Take}
use Rattle.icet_model.specs.declared.exchange.Op.TheVariants.{Join, Swap}
use Rattle.icet_plan.specs.Each.{each}
use Rattle.icet_legs.specs.Collect.{final_ops}
use Rattle.icet_legs.specs.Group.{group_ops}
use Rattle.icet_legs.specs.Merge.{merge_ops}
use Rattle.icet_legs.specs.Powers.{ceil_log2, floor_log2}
use Rattle.icet_legs.specs.Radix.{group_at}
use Rattle.icet_legs.specs.Team.{Team, by_pos}
use Rattle.icet_legs.specs.TileStrategy.{ops_of}
use Rattle.icet_legs.proofs.Loads.{LoadNothing, nothing_both, nothing_collect, nothing_each, nothing_group, nothing_merge}
use Rattle.icet_tree.specs.Tree.{gives, takes, tree_final, tree_ops, tree_swap}
use Rattle.icet_bswap.specs.Bswap.{finals, fold_count, folding, swap_ops, swapper, swappers}
use Rattle.icet_radixk.specs.Factors.{factor_at, factors}
use Rattle.icet_radixk.specs.Radixk.{radix_finals}
use Rattle.icet_multi.specs.declared.settings.Single.{Single}
use Rattle.icet_multi.specs.declared.settings.Single.TheVariants.{Tree, Bswap, Radixk}
use Rattle.icet_multi.specs.Rules.{strategy_of}

loads_tree : (g : Team) (i p : ℕ) → LoadNothing (tree_ops g i p)
loads_tree g i p = go (gives g.n (2 ^ i) p) (takes g.n (2 ^ i) p)
  where
    go : (x y : Bool) → LoadNothing (cond x (Swap (tree_swap g i Send (p - 2 ^ i)) 0 ∷ []) (cond y (Swap (tree_swap g i Take (p + 2 ^ i)) 1 ∷ Join 0 1 0 ∷ []) []))
    go true y = (tt, tt)
    go false true = (tt, (tt, tt))
    go false false = tt

loads_swap : (h : Team) (m : ℕ) (o : Option ℕ) → LoadNothing (by_pos [] (λ s. each (λ i. swap_ops h i s) m) o)
loads_swap h m None = tt
loads_swap h m (Some s) = nothing_each (λ i. swap_ops h i s) m (λ i. (tt, (tt, (tt, (tt, tt)))))

loads_at : (single : Single) (k : ℕ) (g : Team) (shows p : ℕ) → LoadNothing ((strategy_of single k).program g shows p)
loads_at Tree k g shows p =
    let q = ceil_log2 g.n in
    nothing_both (each (λ i. tree_ops g i p) q) (final_ops g (tree_final g q shows) p) (nothing_each (λ i. tree_ops g i p) q (λ i. loads_tree g i p)) (nothing_collect g (tree_final g q shows) p)
loads_at Bswap k g shows p =
    let m = floor_log2 g.n in
    let e = fold_count g.n in
    let swapping = by_pos [] (λ s. each (λ i. swap_ops (swappers g e) i s) m) (swapper e p) in
    nothing_both (merge_ops g (folding g e) p ++ swapping) (final_ops g (finals g m e shows) p) (nothing_both (merge_ops g (folding g e) p) swapping (nothing_merge g (folding g e) p) (loads_swap (swappers g e) m (swapper e p))) (nothing_collect g (finals g m e shows) p)
loads_at Radixk k g shows p =
    let factor = factor_at (factors k g.n) in
    let q = length (factors k g.n) in
    nothing_both (each (λ i. group_ops g (group_at g factor i) p) q) (final_ops g (radix_finals g factor q shows) p) (nothing_each (λ i. group_ops g (group_at g factor i) p) q (λ i. nothing_group g (group_at g factor i) p)) (nothing_collect g (radix_finals g factor q shows) p)

pub loads_nothing : (single : Single) (k : ℕ) (g : Team) (shows r : ℕ) → LoadNothing (ops_of (strategy_of single k) g shows r)
loads_nothing single k g shows r = go (g.pos r)
  where
    go : (o : Option ℕ) → LoadNothing (by_pos [] ((strategy_of single k).program g shows) o)
    go None = tt
    go (Some p) = loads_at single k g shows p
