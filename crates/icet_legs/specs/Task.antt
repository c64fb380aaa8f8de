-- What a strategy for one tile is asked for.
use Rattle.std.specs.Prelude.{ℕ, ◌+◌, ◌<◌, ◌≤◌, ◌^◌, ◌≡◌, List, [], get_or, length}
use Rattle.icet_legs.specs.Team.{Team, team_of}
use Rattle.icet_model.specs.declared.exchange.Kind.{Kind}
use Rattle.icet_model.specs.declared.exchange.Exchange.{Exchange}
use Rattle.icet_legs.specs.declared.range.Range.{Range}
use Rattle.icet_model.specs.declared.limits.TheConstants.{MAX_RANKS}

-- the participants by position, of whom the one at `shows` displays the tile; its number, its pixels, the first round
pub record TaskView : Type 0 where
  pub participants : List ℕ
  pub tile : ℕ
  pub pixels : ℕ
  pub shows : ℕ
  pub first : ℕ

-- what the type of a task keeps
pub record IsTask (x : TaskView) : Type 0 where
  pub shown : x.shows < length x.participants
  pub low : length x.participants ≤ MAX_RANKS
  pub small : x.pixels < 2 ^ 31
  pub early : x.first < 2 ^ 31

-- the team as programs see it: they don't depend on the leaves
abbrev pub task_team : TaskView → Team
task_team x = team_of x.participants [] x.tile x.pixels x.first

-- a rank stands in the list
pub record StandsIn (list : List ℕ) (rank : ℕ) : Type 0 where
  pub at : ℕ
  pub within : at < length list
  pub is : get_or list at 0 ≡ rank

-- the task of these participants and this tile
pub record IsTaskOf (participants : List ℕ) (tile pixels display first : ℕ) (x : TaskView) : Type 0 where
  pub participants_are : x.participants ≡ participants
  pub tile_is : x.tile ≡ tile
  pub pixels_are : x.pixels ≡ pixels
  pub first_is : x.first ≡ first
  pub display_is : get_or participants x.shows 0 ≡ display

-- the exchange of a range with the participant at a position, so many rounds behind the first
abbrev pub exchange_of : TaskView → Kind → ℕ → ℕ → Range → Exchange
exchange_of x kind round peer range = record { round = x.first + round; kind = kind; peer = get_or x.participants peer 0; tile = x.tile; lo = range.lo; hi = range.hi }
