-- Legs in a row: the tiles of a plan go one behind the other, each by a leg of its own.
use Rattle.std.specs.Prelude.{◌≡◌, ◌≢◌, ℕ, zero, suc, ◌+◌, ◌<◌, ◌^◌, List, [], ◌∷◌, ◌++◌, map, length, get_or, set, AllPairs, cond, nat_lt}
use Rattle.std.specs.List.{AllByRecursion, range_with_len}
use Rattle.icet_model.specs.declared.bracket.Bracket.{Bracket}
use Rattle.icet_model.specs.declared.bracket.Bracket.TheVariants.{Empty, Leaf}
use Rattle.icet_model.specs.declared.exchange.Op.{Op}
use Rattle.icet_model.specs.declared.exchange.Op.TheVariants.{Load}
use Rattle.icet_model.specs.Run.{Piece}
use Rattle.icet_model.specs.Fit.{Tiles}
use Rattle.icet_model.specs.Flow.{Messages}
use Rattle.icet_model.specs.Plan.{PlanView, bracket_flow}
use Rattle.icet_plan.specs.Each.{each}
use Rattle.icet_legs.specs.Leg.{IsLeg, leg_flow}
use Rattle.icet_legs.specs.Team.{Team, by_pos, loaded, place_in, team_of}
use Rattle.icet_plan.specs.declared.plan.Leg.{Leg}

-- a tile and its leg: the programs stand by the participants' places
pub record TileLegView : Type 0 where
  pub size : ℕ
  pub display : ℕ
  pub participants : List ℕ
  pub programs : List (List Op)
  pub bracket : Bracket
  pub rounds : ℕ

-- tile t; beyond the last one there are none to take part
abbrev pub tile_at : List TileLegView → ℕ → TileLegView
tile_at legs t = get_or legs t (record { size = 0; display = 0; participants = []; programs = []; bracket = Empty; rounds = 0 })

-- how many rounds the first t tiles take
abbrev pub rounds_before : List TileLegView → ℕ → ℕ
rounds_before legs zero = 0
rounds_before [] (suc t) = 0
rounds_before (x ∷ legs) (suc t) = x.rounds + rounds_before legs t

abbrev pub tiles_of : List TileLegView → Tiles
tiles_of legs = record { sizes = map (λ x. x.size) legs; displays = map (λ x. x.display) legs }

-- the participants of tile t, whose leaves are themselves
abbrev pub row_team : List TileLegView → ℕ → Team
row_team legs t = team_of (tile_at legs t).participants (map (λ r. Leaf r) (tile_at legs t).participants) t (tile_at legs t).size (rounds_before legs t)

-- what a rank does in the leg of tile t
abbrev pub leg_ops_at : List TileLegView → ℕ → ℕ → List Op
leg_ops_at legs t r = by_pos [] (λ p. get_or (tile_at legs t).programs p []) (place_in (tile_at legs t).participants r)

-- what a rank does for tile t: it loads its own image before
abbrev pub tile_ops_at : List TileLegView → ℕ → ℕ → List Op
tile_ops_at legs t r = loaded (row_team legs t) (leg_ops_at legs t) r

-- what a rank does for so many tiles; `ops` gives what it does for one
abbrev pub row_program : (ℕ → ℕ → List Op) → ℕ → ℕ → List Op
row_program ops count r = each (λ t. ops t r) count

-- the messages of so many tiles; `ms` gives those of one
abbrev pub row_messages : (ℕ → Messages Bracket) → ℕ → Messages Bracket
row_messages ms count q r = each (λ t. ms t q r) count

-- the plan of so many ranks
abbrev pub row_plan : ℕ → List TileLegView → PlanView
row_plan ranks legs = record {
  tiles = tiles_of legs;
  brackets = map (λ x. x.bracket) legs;
  programs = map (row_program (tile_ops_at legs) (length legs)) (range_with_len 0 ranks);
}

-- the messages of tile t
abbrev pub tile_messages_at : ℕ → List TileLegView → ℕ → Messages Bracket
tile_messages_at ranks legs t = leg_flow (tiles_of legs).sizes ranks (row_team legs t) (leg_ops_at legs t)

-- tile t is shown by one of so many ranks, its participants are different ones of them, and what they do from the
-- round on in which the tiles before end is a leg
pub record IsLegInRow (ranks : ℕ) (legs : List TileLegView) (t : ℕ) : Type 0 where
  pub shown : (tile_at legs t).display < ranks
  pub ranked : AllByRecursion (λ r. r < ranks) (tile_at legs t).participants
  pub distinct : AllPairs (λ a b. a ≢ b) (tile_at legs t).participants
  pub programs : length (tile_at legs t).programs ≡ length (tile_at legs t).participants
  pub short : AllByRecursion (λ ops. length ops < 2 ^ 20) (tile_at legs t).programs
  pub messages : Messages Bracket
  pub kept : ℕ → List (Piece Bracket)
  pub is_leg : IsLeg (tiles_of legs) ranks (row_team legs t) (tile_at legs t).rounds (tile_at legs t).bracket (leg_ops_at legs t) messages kept

abbrev pub AreLegsInRow : ℕ → List TileLegView → Type 0
AreLegsInRow ranks legs = (t : ℕ) → t < length legs → IsLegInRow ranks legs t

-- the legs' plan: its messages are theirs, one tile behind the other
pub record IsRowPlan (ranks : ℕ) (legs : List TileLegView) (plan : PlanView) : Type 0 where
  pub plan_is : plan ≡ row_plan ranks legs
  pub messages : (q r : ℕ) → bracket_flow plan q r ≡ row_messages (tile_messages_at ranks legs) (length legs) q r

-- the programs with what the participant at position p of tile t does for it
abbrev pub grown_at : ℕ → TileLegView → ℕ → List (List Op) → List (List Op)
grown_at t x p old = set old (get_or x.participants p 0) (get_or old (get_or x.participants p 0) [] ++ Load t 0 ∷ get_or x.programs p [])

-- the programs of so many ranks, of which the first `places` participants of tile t have got what they do for it
pub record HasGrown (ranks : ℕ) (t places : ℕ) (x : TileLegView) (old new : List (List Op)) : Type 0 where
  pub ranks_old : length old ≡ ranks
  pub ranks_new : length new ≡ ranks
  pub programs : (r : ℕ) → r < ranks → get_or new r [] ≡ get_or old r [] ++ by_pos [] (λ p. cond (nat_lt p places) (Load t 0 ∷ get_or x.programs p []) []) (place_in x.participants r)

-- the programs of so many ranks for the first t tiles
pub record HasTiles (ranks : ℕ) (legs : List TileLegView) (t : ℕ) (now : List (List Op)) : Type 0 where
  pub many : length now ≡ ranks
  pub programs : (r : ℕ) → r < ranks → get_or now r [] ≡ row_program (tile_ops_at legs) t r

-- a tile and its leg from their parts
abbrev pub tile_leg : ℕ → ℕ → List ℕ → Leg → TileLegView
tile_leg size display participants leg = record {
  size = size;
  display = display;
  participants = participants;
  programs = leg.programs.items;
  bracket = leg.bracket;
  rounds = leg.rounds;
}

-- the programs of so many ranks, for all tiles
abbrev pub row_programs : List TileLegView → ℕ → List (List Op)
row_programs legs ranks = map (row_program (tile_ops_at legs) (length legs)) (range_with_len 0 ranks)
