-- What each rank does by the strategy reduce, operation by operation, and the plan of these programs.
use Rattle.std.specs.Prelude.{◌≡◌, ◌≢◌, ℕ, ◌<◌, ◌≤◌, ◌^◌, cond, nat_lt, ◌==◌, List, [], ◌∷◌, ◌++◌, map, length, get_or, set, slice_get, Some, AllPairs}
use Rattle.std.specs.List.{AllByRecursion, range_with_len}
use Rattle.icet_model.specs.declared.exchange.Op.{Op}
use Rattle.icet_model.specs.declared.exchange.Op.TheVariants.{Blank, Keep, Load, Swap}
use Rattle.icet_model.specs.Plan.{PlanView}
use Rattle.icet_plan.specs.Each.{each}
use Rattle.icet_plan.specs.declared.plan.Leg.{Leg}
use Rattle.icet_groups.specs.Tiles.{IsTile, TileView}
use Rattle.icet_legs.specs.Leg.{IsLegOf}
use Rattle.icet_legs.specs.Task.{StandsIn}
use Rattle.icet_legs.specs.Team.{Team, by_pos, place_in, team_of}
use Rattle.icet_legs.specs.TileStrategy.{TileStrategy, ops_of}
use Rattle.icet_multi.specs.Direct.{folds, send_of, sending}
use Rattle.icet_multi.specs.Rules.{tile_of}
use Rattle.icet_multi.specs.Reduce.{block_brackets, block_tile, by_block, display_in, group_team, reduce_bracket, reduce_brackets}

-- what a rank does to hand in its image of a block
abbrev pub handing : ℕ → TileView → List Op
handing t x = Load t 0 ∷ Swap (send_of t x) 0 ∷ []

-- what rank r does to get the fold of a block into slot 0, if it is the block's member
abbrev pub folding : ℕ → TileView → ℕ → List Op
folding t x r = cond (x.display == r) (folds t x x.contributors) []

-- the display of a tile without contributors keeps a blank
abbrev pub blank_ops : ℕ → List Op
blank_ops t = Blank t 0 ∷ Keep 0 ∷ []

abbrev pub blanking : ℕ → TileView → ℕ → List Op
blanking t x r = cond (nat_lt 0 (length x.contributors)) [] (cond (x.display == r) (blank_ops t) [])

-- what rank r does in round 0: it hands in its images, tile by tile, and then folds its block
abbrev pub block_ops : List TileView → List (List ℕ) → ℕ → List Op
block_ops tiles groups r = by_block (λ t x. sending t x r) tiles groups ++ by_block (λ t x. folding t x r) tiles groups

-- what it does behind round 0: its group's leg, and then the blanks that it keeps
abbrev pub group_ops : TileStrategy → List TileView → List (List ℕ) → ℕ → List Op
group_ops s tiles groups r = each (λ t. ops_of s (group_team tiles groups t) (display_in tiles groups t) r) (length tiles) ++ each (λ t. blanking t (tile_of tiles t) r) (length tiles)

abbrev pub reduce_program : TileStrategy → List TileView → List (List ℕ) → ℕ → List Op
reduce_program s tiles groups r = block_ops tiles groups r ++ group_ops s tiles groups r

-- the plan of so many ranks
abbrev pub reduce_plan : TileStrategy → ℕ → List TileView → List (List ℕ) → PlanView
reduce_plan s ranks tiles groups = record {
  tiles = record { sizes = map (λ x. x.size) tiles; displays = map (λ x. x.display) tiles };
  brackets = reduce_brackets s tiles groups;
  programs = map (reduce_program s tiles groups) (range_with_len 0 ranks);
}

-- a tile of not too many pixels, and a group of ranks for it: different ones, and no more than contributors; where some
-- contribute, the tile's display is one of them
pub record IsGroupFor (ranks : ℕ) (x : TileView) (group : List ℕ) : Type 0 where
  pub tile : IsTile ranks x
  pub small : x.size < 2 ^ 31
  pub known : length x.contributors ≤ ranks
  pub distinct : AllPairs (λ a b. a ≢ b) group
  pub within : AllByRecursion (λ r. r < ranks) group
  pub few : length group ≤ length x.contributors
  pub shown : 0 < length x.contributors → StandsIn group x.display

-- a group for each tile
pub record AreGroupsFor (ranks : ℕ) (tiles : List TileView) (groups : List (List ℕ)) : Type 0 where
  pub each : length groups ≡ length tiles
  pub are : (t : ℕ) → t < length tiles → IsGroupFor ranks (tile_of tiles t) (get_or groups t [])

-- the group of a tile as a team
abbrev pub team_for : ℕ → TileView → List ℕ → Team
team_for t x group = team_of group (block_brackets x group) t x.size 1

-- the leg of a tile's group from round 1 on; without contributors nobody does anything
pub record IsGroupLeg (s : TileStrategy) (t : ℕ) (x : TileView) (group : List ℕ) (leg : Leg) : Type 0 where
  pub programs : length leg.programs.items ≡ length group
  pub short : AllByRecursion (λ ops. length ops < 2 ^ 20) leg.programs.items
  pub bracket : leg.bracket ≡ reduce_bracket s x group
  pub is_leg : 0 < length x.contributors → IsLegOf s (team_for t x group) x.display leg.programs.items leg.bracket leg.rounds

-- the legs of the first tiles
pub record AreGroupLegs (s : TileStrategy) (tiles : List TileView) (groups : List (List ℕ)) (count : ℕ) (legs : List Leg) : Type 0 where
  pub each : length legs ≡ count
  pub are : (t : ℕ) (leg : Leg) → t < count → slice_get legs t ≡ Some leg → IsGroupLeg s t (tile_of tiles t) (get_or groups t []) leg

-- ---- drafts

-- a rank's operations with more behind them
abbrev pub put_behind : ℕ → List Op → List (List Op) → List (List Op)
put_behind rank ops all = set all rank (get_or all rank [] ++ ops)

-- each rank's operations have grown by these
pub record HaveGrown (more : ℕ → List Op) (old new : List (List Op)) : Type 0 where
  pub same : length new ≡ length old
  pub grown : (r : ℕ) → r < length old → get_or new r [] ≡ get_or old r [] ++ more r

-- what contributor c of a block does to hand in its image, seen from rank r, if it isn't the block's member d
abbrev pub given_by : ℕ → List Op → ℕ → ℕ → List Op
given_by d ops c r = cond (c == d) [] (cond (c == r) ops [])

-- what rank r does in round 0 for a tile, and for all tiles
abbrev pub tile_sends : ℕ → TileView → List ℕ → ℕ → List Op
tile_sends t x group r = each (λ j. sending t (block_tile x group j) r) (length group)

abbrev pub all_sends : List TileView → List (List ℕ) → ℕ → List Op
all_sends tiles groups r = by_block (λ t x. sending t x r) tiles groups

abbrev pub tile_folds : ℕ → TileView → List ℕ → ℕ → List Op
tile_folds t x group r = each (λ j. folding t (block_tile x group j) r) (length group)

abbrev pub all_folds : List TileView → List (List ℕ) → ℕ → List Op
all_folds tiles groups r = by_block (λ t x. folding t x r) tiles groups

-- what it does in a leg whose programs stand by the places of these participants, and in those of all tiles
abbrev pub leg_part : List ℕ → List (List Op) → ℕ → List Op
leg_part group programs r = by_pos [] (λ p. get_or programs p []) (place_in group r)

abbrev pub all_legs : List (List ℕ) → List (List (List Op)) → ℕ → List Op
all_legs groups programs r = each (λ t. leg_part (get_or groups t []) (get_or programs t []) r) (length programs)

abbrev pub programs_in : List Leg → List (List (List Op))
programs_in legs = map (λ leg. leg.programs.items) legs

-- what it does where it shows tiles to which nobody contributes
abbrev pub all_blanks : List TileView → ℕ → List Op
all_blanks tiles r = each (λ t. blanking t (tile_of tiles t) r) (length tiles)

-- all that it does
abbrev pub all_ops : List TileView → List (List ℕ) → List (List (List Op)) → ℕ → List Op
all_ops tiles groups programs r = (all_sends tiles groups r ++ all_folds tiles groups r) ++ (all_legs groups programs r ++ all_blanks tiles r)

-- a short program for each of these ranks, which are different ones of so many
pub record HaveSeats (ranks : ℕ) (group : List ℕ) (programs : List (List Op)) : Type 0 where
  pub distinct : AllPairs (λ a b. a ≢ b) group
  pub within : AllByRecursion (λ r. r < ranks) group
  pub each : length programs ≡ length group
  pub short : AllByRecursion (λ ops. length ops < 2 ^ 20) programs

pub record AllHaveSeats (ranks : ℕ) (groups : List (List ℕ)) (programs : List (List (List Op))) : Type 0 where
  pub each : length groups ≡ length programs
  pub are : (t : ℕ) → t < length programs → HaveSeats ranks (get_or groups t []) (get_or programs t [])
