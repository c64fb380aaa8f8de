-- Strategies for one tile: what its participants do together, whatever their number, their leaves and their tile.
use Rattle.std.specs.Prelude.{ℕ, List, [], map}
use Rattle.std.specs.List.{range_with_len}
use Rattle.icet_model.specs.declared.bracket.Bracket.{Bracket}
use Rattle.icet_model.specs.declared.exchange.Op.{Op}
use Rattle.icet_model.specs.Run.{MessageView, Piece}
use Rattle.icet_model.specs.Flow.{Messages}
use Rattle.icet_legs.specs.Team.{Team, by_pair, by_pos}

-- the first number that `program`, `messages` and `kept` are given is the position of the tile's display
pub record TileStrategy : Type 0 where
  pub rounds : ℕ → ℕ  -- for so many participants
  pub bracket : List Bracket → Bracket  -- over the participants' leaves
  pub program : Team → ℕ → ℕ → List Op  -- of the participant at a position
  pub messages : Team → ℕ → ℕ → ℕ → List (MessageView Bracket)  -- from one position to another
  pub kept : Team → ℕ → ℕ → List (Piece Bracket)  -- what the participant at a position keeps for display

-- the participants' leaves, by position
abbrev pub leaves_of : Team → List Bracket
leaves_of g = map g.leaf (range_with_len 0 g.n)

-- the same by rank: one that takes no part does nothing
abbrev pub ops_of : TileStrategy → Team → ℕ → ℕ → List Op
ops_of s g shows r = by_pos [] (s.program g shows) (g.pos r)

abbrev pub messages_of : TileStrategy → Team → ℕ → Messages Bracket
messages_of s g shows q r = by_pair (s.messages g shows) (g.pos q) (g.pos r)

abbrev pub kept_of : TileStrategy → Team → ℕ → ℕ → List (Piece Bracket)
kept_of s g shows r = by_pos [] (s.kept g shows) (g.pos r)
