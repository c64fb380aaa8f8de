-- A leg that begins with a piece that is already there, in place of the participant's own image.
use Rattle.std.specs.Prelude.{◌≡◌, ℕ, List, [], length, get_or, Option, Some}
use Rattle.icet_model.specs.declared.bracket.Bracket.{Bracket}
use Rattle.icet_model.specs.declared.exchange.Op.{Op}
use Rattle.icet_model.specs.Fit.{AllFit, Tiles}
use Rattle.icet_model.specs.Flow.{Messages}
use Rattle.icet_model.specs.Plan.{bracket_carrier}
use Rattle.icet_model.specs.Run.{Local, Piece, run}
use Rattle.icet_legs.specs.Leg.{IsLeg}
use Rattle.icet_legs.specs.Team.{Team}
use Rattle.icet_legs.proofs.Loads.{LoadNothing}

-- the whole image of the team's tile, made of the leaf of the participant at position p
abbrev pub leaf_piece : Team → ℕ → Piece Bracket
leaf_piece g p = record { tile = g.tile; lo = 0; hi = g.size; content = g.leaf p }

-- a rank with these pieces in its slots, which has sent, taken and kept nothing
abbrev pub rank_with : (ℕ → Option (Piece Bracket)) → Local Bracket
rank_with slots = record { slots = slots; kept = []; sent = λ q. []; used = λ q. 0 }

-- from these slots rank r does what the leg says of it
pub record RunsLeg (tiles : Tiles) (r : ℕ) (ops : List Op) (ms : Messages Bracket) (kept : ℕ → List (Piece Bracket)) (slots : ℕ → Option (Piece Bracket)) : Type 0 where
  pub fits : AllFit tiles (bracket_carrier tiles.sizes r) r (λ q. ms q r) ops (rank_with slots)
  pub sends : (run (bracket_carrier tiles.sizes r) r (λ q. ms q r) ops (rank_with slots)).sent ≡ (λ q. ms r q)
  pub takes : (run (bracket_carrier tiles.sizes r) r (λ q. ms q r) ops (rank_with slots)).used ≡ (λ q. length (ms q r))
  pub keeps : (run (bracket_carrier tiles.sizes r) r (λ q. ms q r) ops (rank_with slots)).kept ≡ kept r

-- a leg with any leaves goes on from what is in slot 0: a participant that finds its leaf's whole image there, wherever
-- it is from, does what it does with its own image
abbrev pub LegsBeginFromASlot : Type 0
LegsBeginFromASlot = (tiles : Tiles) (ranks : ℕ) (g : Team) (rounds : ℕ) (bracket : Bracket) (ops : ℕ → List Op) (ms : Messages Bracket) (kept : ℕ → List (Piece Bracket)) → IsLeg tiles ranks g rounds bracket ops ms kept → g.size ≡ get_or tiles.sizes g.tile 0 → (r p : ℕ) → g.pos r ≡ Some p → LoadNothing (ops r) → (slots : ℕ → Option (Piece Bracket)) → slots 0 ≡ Some (leaf_piece g p) → RunsLeg tiles r (ops r) ms kept slots
