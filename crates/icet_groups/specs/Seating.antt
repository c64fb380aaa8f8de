-- How far the group of a tile is filled up.
use Rattle.std.specs.Prelude.{◌≡◌, ℕ, ◌<◌, ◌-◌, Bool, false, cond, ◌&&◌, nat_lt, List, length, get_or, set, Option, Some}
use Rattle.icet_groups.specs.Seats.{filled, is_free}
use Rattle.icet_groups.specs.Tiles.{has}

-- for each of so many ranks whether it stands in the list
pub record AreMarks (ranks : ℕ) (marked : List ℕ) (marks : List Bool) : Type 0 where
  pub many : length marks ≡ ranks
  pub are : (r : ℕ) → r < ranks → get_or marks r false ≡ has r marked

-- each contributor below rank n is in a group
abbrev pub NoneWaits : List ℕ → List (Option ℕ) → ℕ → Type 0
NoneWaits contributors seats n = (r : ℕ) → r < n → (is_free seats r && has r contributors) ≡ false

-- of `count` newcomers all but `left` have joined the group of tile t, and these were contributors; if some are left, no
-- contributor below rank n waits
pub record IsSeating (t : ℕ) (contributors : List ℕ) (old : List (Option ℕ)) (count n : ℕ) (new : List (Option ℕ)) (left : ℕ) : Type 0 where
  pub many : length new ≡ length old
  pub rest : filled t contributors count old ≡ filled t contributors left new
  pub none : 0 < left → NoneWaits contributors new n

-- rank r joins the group of tile t, if it may, is free and a place is left: the seats, and how many places are left then
abbrev pub next_seated : ℕ → ℕ → Bool → List (Option ℕ) → ℕ → List (Option ℕ) × ℕ
next_seated t r may seats left = cond (nat_lt 0 left && (may && is_free seats r)) (set seats r (Some t), left - 1) (seats, left)
