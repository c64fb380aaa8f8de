-- The hull of an open net: the plan and what it was opened with, and the pairs of ranks that it uses.
use Rattle.std.specs.Prelude.{◌≡◌, ℕ, zero, suc, ◌*◌, ◌≤◌, List, [], ◌∷◌, map, length, filter, get_or}
use Rattle.std.specs.List.{AllByRecursion, flat_map, range_with_len}
use Rattle.icet_model.specs.Exchange.{sends_to, of_rank}
use Rattle.icet_model.specs.Plan.{PlanView, IsPlan, plan_exchanges}
use Rattle.icet_collect.specs.Collect.{CanvasView, blank_canvas}
use Rattle.icet_model.specs.declared.limits.TheConstants.{MAX_RANK_PIXELS}

-- what contracts see of a hull: the plan, how many messages may wait on a pair, the strands, each
-- tile's width and height, and the ordered pairs used, ascending by from and then by to
pub record HullView : Type 0 where
  pub plan : PlanView
  pub cap : ℕ
  pub strands : ℕ
  pub sides : List (ℕ × ℕ)
  pub pairs : List (ℕ × ℕ)

-- how many messages rank q sends to rank r in the plan
abbrev pub messages_on : PlanView → ℕ → ℕ → ℕ
messages_on plan q r = length (filter (sends_to r) (of_rank (plan_exchanges plan) q))

-- the pair, where it carries messages
abbrev pub pair_if : ℕ → ℕ → ℕ → List (ℕ × ℕ)
pair_if q r zero = []
pair_if q r (suc n) = (q, r) ∷ []

-- the pairs from rank q to the first n ranks that carry messages
abbrev pub pairs_from : PlanView → ℕ → ℕ → List (ℕ × ℕ)
pairs_from plan n q = flat_map (λ r. pair_if q r (messages_on plan q r)) (range_with_len 0 n)

-- the pairs from rank q that carry messages
abbrev pub pairs_on : PlanView → ℕ → List (ℕ × ℕ)
pairs_on plan q = pairs_from plan (length plan.programs) q

-- the pairs that a plan uses
abbrev pub pairs_of : PlanView → List (ℕ × ℕ)
pairs_of plan = flat_map (pairs_from plan (length plan.programs)) (range_with_len 0 (length plan.programs))

-- a tile's width and height
abbrev pub sides_at : List (ℕ × ℕ) → ℕ → ℕ × ℕ
sides_at sides t = get_or sides t (0, 0)

-- the widths and heights are those of tiles of these numbers of pixels, and no tile is too large
pub record AreSides (sizes : List ℕ) (sides : List (ℕ × ℕ)) : Type 0 where
  pub products : map (λ s. s.0 * s.1) sides ≡ sizes
  pub small : AllByRecursion (λ n. n ≤ MAX_RANK_PIXELS) sizes

-- what the type of a hull keeps
pub record IsHull (hull : HullView) : Type 0 where
  pub plan : IsPlan hull.plan
  pub cap : 1 ≤ hull.cap
  pub strands : 1 ≤ hull.strands
  pub sides : AreSides hull.plan.tiles.sizes hull.sides
  pub pairs : hull.pairs ≡ pairs_of hull.plan

-- a blank canvas for each tile
abbrev pub blank_canvases : List (ℕ × ℕ) → ℕ → List CanvasView
blank_canvases sides strands = map (λ t. blank_canvas t (sides_at sides t).0 (sides_at sides t).1 strands) (range_with_len 0 (length sides))

-- a hull holds the blank canvases, and the memory for the parts of all machines and for all pictures
pub record KeepsHull (hull : HullView) (canvases : List CanvasView) (parts_memory pictures_memory : ℕ) : Type 0 where
  pub hull_is : IsHull hull
  pub canvases_are : canvases ≡ blank_canvases hull.sides hull.strands
  pub parts_kept : length hull.plan.programs ≤ parts_memory
  pub pictures_kept : length hull.sides ≤ pictures_memory
