-- Plans: who sends which piece to whom, what that makes of brackets and of pixels, and when a plan is sound.
use Rattle.std.specs.Prelude.{◌≡◌, ℕ, ◌-◌, ◌<◌, Bool, ◌&&◌, ◌==◌, nat_le, nat_lt, List, map, length, get_or, take, drop, replicate, None, filter}
use Rattle.std.specs.List.{AllByRecursion, zip, range_with_len}
use Rattle.icet_model.specs.declared.names.Mode.{Mode}
use Rattle.icet_model.specs.declared.bracket.Bracket.{Bracket}
use Rattle.icet_model.specs.declared.bracket.Bracket.TheVariants.{Empty, Leaf, Pair}
use Rattle.icet_model.specs.declared.exchange.Exchange.{Exchange}
use Rattle.icet_model.specs.declared.exchange.Op.{Op}
use Rattle.icet_model.specs.Pixel.{Pixel, joined}
use Rattle.icet_model.specs.Exchange.{exchanges}
use Rattle.icet_model.specs.Matched.{IsMatched}
use Rattle.icet_model.specs.Run.{Carrier, Piece, fresh}
use Rattle.icet_model.specs.Fit.{Tiles, AllFit}
use Rattle.icet_model.specs.Flow.{Messages, program, flow, end_of}
use Rattle.icet_model.specs.Bracket.{Images, value}

-- brackets as contents: an image is its rank's leaf, and a cut leaves the same bracket on both sides
abbrev pub bracket_carrier : List ℕ → ℕ → Carrier Bracket
bracket_carrier sizes me = record {
  size = λ t. get_or sizes t 0;
  load = λ t. Leaf me;
  blank = λ t lo hi. Empty;
  front = λ n b. b;
  rest = λ n b. b;
  join = λ f b. Pair f b;
}

-- lists of pixels as contents; `image` gives the rank's own of each tile
abbrev pub pixel_carrier : Mode → List ℕ → (ℕ → List Pixel) → Carrier (List Pixel)
pixel_carrier mode sizes image = record {
  size = λ t. get_or sizes t 0;
  load = image;
  blank = λ t lo hi. replicate (hi - lo) None;
  front = take;
  rest = drop;
  join = λ f b. map (λ p. joined mode p.0 p.1) (zip f b);
}

-- what contracts see of a plan
pub record PlanView : Type 0 where
  pub tiles : Tiles
  pub brackets : List Bracket
  pub programs : List (List Op)

-- a plan from its parts: each tile's number of positions, its display and its bracket, and the programs
abbrev pub plan_view : List ℕ → List ℕ → List Bracket → List (List Op) → PlanView
plan_view sizes displays brackets programs = record { tiles = record { sizes = sizes; displays = displays }; brackets = brackets; programs = programs }

-- the exchanges of each rank
abbrev pub plan_exchanges : PlanView → List (List Exchange)
plan_exchanges plan = map exchanges plan.programs

-- the flow with brackets in place of pixels: which images are joined in each message, and in which order
abbrev pub bracket_flow : PlanView → Messages Bracket
bracket_flow plan = flow (bracket_carrier plan.tiles.sizes) plan.programs

-- the pieces that rank r keeps for display
abbrev pub kept_by : PlanView → ℕ → List (Piece Bracket)
kept_by plan r = (end_of (bracket_carrier plan.tiles.sizes) plan.programs (bracket_flow plan) r).kept

-- the piece holds this position of this tile
abbrev pub has_place : {T : Type 0} → ℕ → ℕ → Piece T → Bool
has_place t i p = (p.tile == t) && (nat_le p.lo i && nat_lt i p.hi)

pub record IsSound (plan : PlanView) : Type 0 where
  -- each operation fits where it comes, so a kept piece lies at its tile's display rank
  pub fit : (r : ℕ) → AllFit plan.tiles (bracket_carrier plan.tiles.sizes r) r (λ p. bracket_flow plan p r) (program plan.programs r) fresh
  -- the kept pieces of each tile hold every position once
  pub once : (t i : ℕ) → t < length plan.tiles.sizes → i < get_or plan.tiles.sizes t 0 → length (filter (has_place t i) (kept_by plan (get_or plan.tiles.displays t 0))) ≡ 1
  -- each kept piece carries its tile's bracket
  pub carries : (r : ℕ) → AllByRecursion (λ p. get_or plan.brackets p.tile Empty ≡ p.content) (kept_by plan r)

-- there is a display and a bracket for each tile, and each display is a rank of the plan
pub record IsWellFormed (plan : PlanView) : Type 0 where
  pub displays : length plan.tiles.displays ≡ length plan.tiles.sizes
  pub brackets : length plan.brackets ≡ length plan.tiles.sizes
  pub shown : AllByRecursion (λ d. d < length plan.programs) plan.tiles.displays

-- what the type of a plan keeps
pub record IsPlan (plan : PlanView) : Type 0 where
  pub formed : IsWellFormed plan
  pub matched : IsMatched (plan_exchanges plan)
  pub sound : IsSound plan

-- the values of a bracket at the positions of a piece
abbrev pub values : Mode → Images → ℕ → ℕ → ℕ → Bracket → List Pixel
values mode images t lo hi b = map (λ i. value mode images b t i) (range_with_len lo (hi - lo))

-- each rank's image of each tile has the tile's size
abbrev pub AreWhole : Tiles → Images → Type 0
AreWhole tiles images = (r t : ℕ) → t < length tiles.sizes → length (images r t) ≡ get_or tiles.sizes t 0
