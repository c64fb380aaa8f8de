-- A round in which some positions take the whole piece of the one w further on, and join it behind their own.
use Rattle.std.specs.Prelude.{ℕ, ◌+◌, ◌-◌, Bool, cond, ◌&&◌, ◌==◌, nat_le, List, [], ◌∷◌}
use Rattle.icet_legs.specs.Team.{Team}
use Rattle.icet_model.specs.Run.{MessageView, Piece}
use Rattle.icet_model.specs.declared.bracket.Bracket.{Bracket}
use Rattle.icet_model.specs.declared.bracket.Bracket.TheVariants.{Pair}
use Rattle.icet_model.specs.declared.exchange.Exchange.{Exchange}
use Rattle.icet_model.specs.declared.exchange.Kind.{Kind}
use Rattle.icet_model.specs.declared.exchange.Kind.TheVariants.{Send, Take}
use Rattle.icet_model.specs.declared.exchange.Op.{Op}
use Rattle.icet_model.specs.declared.exchange.Op.TheVariants.{Join, Swap}

pub record Merge : Type 0 where
  pub w : ℕ
  pub round : ℕ
  pub takes : ℕ → Bool
  pub content : ℕ → Bracket

abbrev pub merge_gives : Merge → ℕ → Bool
merge_gives u q = nat_le u.w q && u.takes (q - u.w)

abbrev pub merge_swap : Team → Merge → Kind → ℕ → Exchange
merge_swap g u k t = record { round = u.round; kind = k; peer = g.who t; tile = g.tile; lo = 0; hi = g.size }

abbrev pub merge_piece : Team → Bracket → Piece Bracket
merge_piece g b = record { tile = g.tile; lo = 0; hi = g.size; content = b }

abbrev pub merge_ops : Team → Merge → ℕ → List Op
merge_ops g u p = cond (merge_gives u p) (Swap (merge_swap g u Send (p - u.w)) 0 ∷ []) (cond (u.takes p) (Swap (merge_swap g u Take (p + u.w)) 1 ∷ Join 0 1 0 ∷ []) [])

abbrev pub merge_messages : Team → Merge → ℕ → ℕ → List (MessageView Bracket)
merge_messages g u a b = cond (u.takes b && (b + u.w == a)) (record { round = u.round; from = g.who a; to = g.who b; piece = merge_piece g (u.content a) } ∷ []) []

-- what a position has afterwards
abbrev pub merged : Merge → ℕ → Bracket
merged u p = cond (u.takes p) (Pair (u.content p) (u.content (p + u.w))) (u.content p)
