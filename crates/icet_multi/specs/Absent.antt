-- An order of ranks without those that draw nothing in an area.
use Rattle.std.specs.Prelude.{◌≡◌, ℕ, ◌*◌, ◌<◌, All, Bool, false, List, map, filter, replicate, slice_get, Some, None}
use Rattle.std.specs.List.{range_with_len}
use Rattle.icet_model.specs.declared.bracket.Bracket.{Bracket}
use Rattle.icet_model.specs.declared.names.Mode.{Mode}
use Rattle.icet_model.specs.Bracket.{leaves}
use Rattle.icet_model.specs.Tiles.{Area}
use Rattle.icet_scene_model.specs.Boxes.{box, contributors}
use Rattle.icet_scene_model.specs.Raster.{Drawing, full_image}
use Rattle.icet_multi.specs.Direct.{has}

-- so many ranks, what each draws, and an order of ranks of them
pub record Drawers : Type 0 where
  pub ranks : ℕ
  pub shapes : ℕ → List Drawing
  pub order : List ℕ
  pub known : All (λ rank. rank < ranks) order

-- the leaves of a bracket are the contributors to an area, in the order
abbrev pub HasContributors : Drawers → Area → Bracket → Type 0
HasContributors drawers area bracket = leaves bracket ≡ contributors (map (λ rank. box (drawers.shapes rank)) (range_with_len 0 drawers.ranks)) drawers.order area

-- the shapes draw nothing at any pixel of the area
abbrev pub IsBlank : Mode → List Drawing → Area → Type 0
IsBlank mode shapes area = full_image mode shapes area ≡ replicate (area.w * area.h) None

-- the list is the order without ranks that are blank in the area, so that a rank of the order that isn't
-- in the list is blank there
pub record LeavesOutBlank (mode : Mode) (drawers : Drawers) (area : Area) (list : List ℕ) : Type 0 where
  pub keeps : ℕ → Bool
  pub is : list ≡ filter keeps drawers.order
  pub left_out : (k r : ℕ) → slice_get drawers.order k ≡ Some r → keeps r ≡ false → IsBlank mode (drawers.shapes r) area
  pub absent : (k r : ℕ) → slice_get drawers.order k ≡ Some r → has r list ≡ false → IsBlank mode (drawers.shapes r) area

-- whatever bracket has the contributors as its leaves, these are the order without ranks that draw nothing
abbrev pub OthersDrawNothing : Type 0
OthersDrawNothing =
    (mode : Mode) (drawers : Drawers) (area : Area) (bracket : Bracket) → HasContributors drawers area bracket
    → LeavesOutBlank mode drawers area (leaves bracket)
