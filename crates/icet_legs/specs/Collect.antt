-- The collection of final pieces at a tile's display.
use Rattle.std.specs.Prelude.{◌≡◌, ◌≤◌, ◌<◌, true, ℕ, Bool, cond, not, ◌&&◌, ◌==◌, List, [], ◌∷◌, ◌++◌, get_or, Option, Some, None, is_some}
use Rattle.icet_legs.specs.declared.range.Range.{Range}
use Rattle.icet_model.specs.declared.bracket.Bracket.TheVariants.{Empty}
use Rattle.icet_legs.specs.Team.{Team, by_pair, by_pos}
use Rattle.icet_model.specs.Flow.{Messages}
use Rattle.icet_model.specs.Run.{MessageView, Piece}
use Rattle.icet_model.specs.declared.bracket.Bracket.{Bracket}
use Rattle.icet_model.specs.declared.exchange.Exchange.{Exchange}
use Rattle.icet_model.specs.declared.exchange.Kind.{Kind}
use Rattle.icet_model.specs.declared.exchange.Kind.TheVariants.{Send, Take}
use Rattle.icet_model.specs.declared.exchange.Op.{Op}
use Rattle.icet_model.specs.declared.exchange.Op.TheVariants.{Keep, Swap}
use Rattle.icet_plan.specs.Each.{each}

-- who holds a final piece, which, with what, and who shows the tile
pub record Final : Type 0 where
  pub holds : ℕ → Bool
  pub lo : ℕ → ℕ
  pub hi : ℕ → ℕ
  pub content : Bracket
  pub round : ℕ
  pub shows : ℕ

abbrev pub final_piece : Team → Final → ℕ → Piece Bracket
final_piece g f a = record { tile = g.tile; lo = f.lo a; hi = f.hi a; content = f.content }

abbrev pub final_swap : Team → Final → Kind → ℕ → ℕ → Exchange
final_swap g f k t a = record { round = f.round; kind = k; peer = g.who t; tile = g.tile; lo = f.lo a; hi = f.hi a }

-- a gives its piece to the display
abbrev pub hands_in : Final → ℕ → Bool
hands_in f a = f.holds a && not (a == f.shows)

abbrev pub fetch_ops : Team → Final → ℕ → List Op
fetch_ops g f b = cond (hands_in f b) (Swap (final_swap g f Take b b) 1 ∷ Keep 1 ∷ []) []

abbrev pub own_ops : Final → List Op
own_ops f = cond (f.holds f.shows) (Keep 0 ∷ []) []

-- what the display does: it keeps its own final piece, and takes and keeps those of all others
abbrev pub display_ops : Team → Final → List Op
display_ops g f = own_ops f ++ each (fetch_ops g f) g.n

abbrev pub final_ops : Team → Final → ℕ → List Op
final_ops g f a = cond (a == f.shows) (display_ops g f) (cond (f.holds a) (Swap (final_swap g f Send f.shows a) 0 ∷ []) [])

abbrev pub final_messages : Team → Final → ℕ → ℕ → List (MessageView Bracket)
final_messages g f a b = cond ((b == f.shows) && hands_in f a) (record { round = f.round; from = g.who a; to = g.who b; piece = final_piece g f a } ∷ []) []

abbrev pub final_kept : Team → Final → ℕ → List (Piece Bracket)
final_kept g f a = cond (a == f.shows) (cond (f.holds f.shows) (final_piece g f f.shows ∷ []) [] ++ each (λ b. cond (hands_in f b) (final_piece g f b ∷ []) []) g.n) []

abbrev pub collect_ops : Team → Final → ℕ → List Op
collect_ops g f r = by_pos [] (final_ops g f) (g.pos r)

abbrev pub collect_messages : Team → Final → Messages Bracket
collect_messages g f q r = by_pair (final_messages g f) (g.pos q) (g.pos r)

abbrev pub lo_of : Option Range → ℕ
lo_of None = 0
lo_of (Some r) = r.lo

abbrev pub hi_of : Option Range → ℕ
hi_of None = 0
hi_of (Some r) = r.hi

-- the final pieces as a list: the range of each participant that has one, by position
abbrev pub final_over : List (Option Range) → ℕ → ℕ → Final
final_over ranges round shows = record {
  holds = λ a. is_some (get_or ranges a None);
  lo = λ a. lo_of (get_or ranges a None);
  hi = λ a. hi_of (get_or ranges a None);
  content = Empty;
  round = round;
  shows = shows;
}

-- what the display does with its own final piece, if it has one
abbrev pub own_of : Option Range → List Op
own_of o = cond (is_some o) (Keep 0 ∷ []) []

-- the final piece of the participant at position a holds x
pub record Holds (f : Final) (x a : ℕ) : Type 0 where
  pub from : f.lo a ≤ x
  pub to : x < f.hi a

-- one of n participants' final pieces holds x, and no other
pub record OneHolds (n : ℕ) (f : Final) (x : ℕ) : Type 0 where
  pub at : ℕ
  pub within : at < n
  pub final : f.holds at ≡ true
  pub holds : Holds f x at
  pub only : (b : ℕ) → b < n → f.holds b ≡ true → Holds f x b → b ≡ at
