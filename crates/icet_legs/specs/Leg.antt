-- A leg: what the participants of one tile do, from their leaves to the pieces that the tile's display keeps.
use Rattle.std.specs.Prelude.{◌≡◌, ℕ, ◌+◌, ◌<◌, ◌≤◌, ◌^◌, List, [], length, map, get_or, None, Some, slice_get, filter}
use Rattle.std.specs.List.{AllByRecursion, range_with_len}
use Rattle.icet_model.specs.declared.bracket.Bracket.{Bracket}
use Rattle.icet_model.specs.declared.bracket.Bracket.TheVariants.{Empty, Pair}
use Rattle.icet_model.specs.declared.exchange.Exchange.{Exchange}
use Rattle.icet_model.specs.declared.exchange.Op.{Op}
use Rattle.icet_model.specs.Exchange.{exchanges}
use Rattle.icet_model.specs.Matched.{IsMatched}
use Rattle.icet_model.specs.Run.{Carrier, Local, Piece, fresh, run}
use Rattle.icet_model.specs.Fit.{Tiles, AllFit}
use Rattle.icet_model.specs.Flow.{Messages, flow}
use Rattle.icet_model.specs.Plan.{has_place}
use Rattle.icet_plan.specs.declared.plan.Leg.{Leg}
use Rattle.icet_legs.specs.Order.{AreInOrder}
use Rattle.icet_legs.specs.Team.{Team, by_pos, loaded, team_of}
use Rattle.icet_legs.specs.TileStrategy.{TileStrategy, kept_of, leaves_of, messages_of, ops_of}

-- brackets as contents, where a participant's own image is its leaf
abbrev pub leaf_carrier : List ℕ → Team → ℕ → Carrier Bracket
leaf_carrier sizes g r = record {
  size = λ t. get_or sizes t 0;
  load = λ t. by_pos Empty g.leaf (g.pos r);
  blank = λ t lo hi. Empty;
  front = λ n b. b;
  rest = λ n b. b;
  join = λ f b. Pair f b;
}

-- the programs of so many ranks, each participant's own image in slot 0 before its first operation
abbrev pub leg_programs : ℕ → Team → (ℕ → List Op) → List (List Op)
leg_programs ranks g ops = map (loaded g ops) (range_with_len 0 ranks)

-- the messages of these operations, from the participants' leaves on
abbrev pub leg_flow : List ℕ → ℕ → Team → (ℕ → List Op) → Messages Bracket
leg_flow sizes ranks g ops = flow (leaf_carrier sizes g) (leg_programs ranks g ops)

-- where rank r stands behind its program, if it takes these messages
abbrev pub leg_end : List ℕ → Team → (ℕ → List Op) → Messages Bracket → ℕ → Local Bracket
leg_end sizes g ops ms r = run (leaf_carrier sizes g r) r (λ q. ms q r) (loaded g ops r) fresh

-- the exchange is in one of these rounds
pub record IsInRounds (first rounds : ℕ) (e : Exchange) : Type 0 where
  pub from : first ≤ e.round
  pub to : e.round < first + rounds

-- the team's tile is one of these, shown by the participant at position `shows`
pub record IsTileOf (tiles : Tiles) (g : Team) (shows : ℕ) : Type 0 where
  pub tile : g.tile < length tiles.sizes
  pub size : g.size ≡ get_or tiles.sizes g.tile 0
  pub display : slice_get tiles.displays g.tile ≡ Some (g.who shows)

-- each participant is one of so many ranks
abbrev pub AreRanks : ℕ → Team → Type 0
AreRanks ranks g = (p : ℕ) → p < g.n → g.who p < ranks

-- operations of each of so many ranks that are a leg: `ms` are all messages, `kept` the pieces that a rank keeps
pub record IsLeg (tiles : Tiles) (ranks : ℕ) (g : Team) (rounds : ℕ) (bracket : Bracket) (ops : ℕ → List Op) (ms : Messages Bracket) (kept : ℕ → List (Piece Bracket)) : Type 0 where
  pub matched : IsMatched (map exchanges (leg_programs ranks g ops))
  pub within : (r : ℕ) → AllByRecursion (IsInRounds g.first rounds) (exchanges (ops r))
  pub outside : (r : ℕ) → g.pos r ≡ None → ops r ≡ []
  -- each operation finds what it uses
  pub fits : (r : ℕ) → AllFit tiles (leaf_carrier tiles.sizes g r) r (λ q. ms q r) (loaded g ops r) fresh
  -- from the leaves on these messages are sent and no others, and all of them are taken
  pub flows : (q r : ℕ) → leg_flow tiles.sizes ranks g ops q r ≡ ms q r
  pub sends : (r : ℕ) → (leg_end tiles.sizes g ops ms r).sent ≡ (λ q. ms r q)
  pub takes : (r : ℕ) → (leg_end tiles.sizes g ops ms r).used ≡ (λ q. length (ms q r))
  pub keeps : (r : ℕ) → (leg_end tiles.sizes g ops ms r).kept ≡ kept r
  -- what is kept is of the tile and has the bracket of the whole, and the display keeps each position once
  pub carries : (r : ℕ) → AllByRecursion (λ p. (p.tile ≡ g.tile) × (p.content ≡ bracket)) (kept r)
  pub once : (i : ℕ) → i < g.size → length (filter (has_place g.tile i) (kept (get_or tiles.displays g.tile 0))) ≡ 1
  -- a rank's exchanges stand by round, sends before takes, and those of one kind and round by the place of the peer
  pub in_order : (r : ℕ) → AreInOrder g.pos (exchanges (ops r))

-- what a strategy makes of a team whose tile is shown by rank `display`: the programs by position, the bracket
-- and the number of rounds
pub record IsLegOf (s : TileStrategy) (g : Team) (display : ℕ) (programs : List (List Op)) (bracket : Bracket) (rounds : ℕ) : Type 0 where
  pub shows : ℕ
  pub shown : shows < g.n
  pub display_is : g.who shows ≡ display
  pub programs_are : programs ≡ map (s.program g shows) (range_with_len 0 g.n)
  pub bracket_is : bracket ≡ s.bracket (leaves_of g)
  pub rounds_are : rounds ≡ s.rounds g.n
  pub few : s.rounds g.n < 2 ^ 16
  pub short : (p : ℕ) → p < g.n → length (s.program g shows p) < 2 ^ 20
  pub is_leg : (tiles : Tiles) (ranks : ℕ) → IsTileOf tiles g shows → AreRanks ranks g → IsLeg tiles ranks g (s.rounds g.n) (s.bracket (leaves_of g)) (ops_of s g shows) (messages_of s g shows) (kept_of s g shows)

-- the same of a leg as a builder answers it
abbrev pub IsExchangePlan : TileStrategy → Team → ℕ → Leg → Type 0
IsExchangePlan s g display leg = IsLegOf s g display leg.programs.items leg.bracket leg.rounds

-- the leg is the strategy's for what was asked: participants and leaves, tile and pixels, first round, display
abbrev pub IsPlanFor : TileStrategy → List ℕ → List Bracket → ℕ → ℕ → ℕ → ℕ → Leg → Type 0
IsPlanFor s participants leaves tile pixels first display leg = IsExchangePlan s (team_of participants leaves tile pixels first) display leg
