-- A small plan of several rounds, written by hand.
use Rattle.std.specs.Prelude.{[], ◌∷◌}
use Rattle.icet_model.specs.declared.bracket.Bracket.TheVariants.{Leaf, Pair}
use Rattle.icet_model.specs.declared.exchange.Op.TheVariants.{Load, Cut, Join, Swap, Keep}
use Rattle.icet_model.specs.Plan.{PlanView}
use Rattle.icet_plan.specs.Samples.{send_part, take_part}

-- one tile of two positions: two ranks by binary-swap. Each sends one half of its image and joins the
-- other with the peer's; then rank 0 collects both halves. Both ranks send first in their round.
abbrev pub two_swappers : PlanView
two_swappers = record {
  tiles = record { sizes = 2 ∷ []; displays = 0 ∷ [] };
  brackets = Pair (Leaf 0) (Leaf 1) ∷ [];
  programs =
      (Load 0 0 ∷ Cut 0 1 1 ∷ Swap (send_part 1 1 0 1 2) 1 ∷ Swap (take_part 1 1 0 0 1) 1 ∷ Join 0 1 0 ∷ Keep 0 ∷ Swap (take_part 2 1 0 1 2) 1 ∷ Keep 1 ∷ [])
      ∷ (Load 0 0 ∷ Cut 0 1 1 ∷ Swap (send_part 1 0 0 0 1) 0 ∷ Swap (take_part 1 0 0 1 2) 0 ∷ Join 0 1 0 ∷ Swap (send_part 2 0 0 1 2) 0 ∷ [])
      ∷ [];
}
