-- A round in which groups exchange the parts of their pieces: what the participants with equal other digits do.
use Rattle.std.specs.Prelude.{ℕ, zero, suc, ◌+◌, ◌-◌, ◌*◌, ◌/◌, ◌%◌, Bool, cond, not, ◌&&◌, ◌==◌, List, [], ◌∷◌, ◌++◌}
use Rattle.icet_legs.specs.Team.{Team}
use Rattle.icet_model.specs.Run.{MessageView, Piece}
use Rattle.icet_model.specs.declared.bracket.Bracket.{Bracket}
use Rattle.icet_model.specs.declared.bracket.Bracket.TheVariants.{Pair}
use Rattle.icet_model.specs.declared.exchange.Exchange.{Exchange}
use Rattle.icet_model.specs.declared.exchange.Kind.{Kind}
use Rattle.icet_model.specs.declared.exchange.Kind.TheVariants.{Send, Take}
use Rattle.icet_model.specs.declared.exchange.Op.{Op}
use Rattle.icet_model.specs.declared.exchange.Op.TheVariants.{Cut, Join, Swap}
use Rattle.icet_plan.specs.Each.{each}

abbrev pub digit : ℕ → ℕ → ℕ → ℕ
digit w k p = (p / w) % k

-- the position of the same group with another digit
abbrev pub member : ℕ → ℕ → ℕ → ℕ → ℕ
member w k p h = (p / w / k * k + h) * w + p % w

-- a range's part: from its start by so many k-ths
abbrev pub cut_at : ℕ → ℕ → ℕ → ℕ → ℕ
cut_at lo hi k h = lo + (hi - lo) * h / k

-- one round: stride w, factor k, what each position has before
pub record Group : Type 0 where
  pub w : ℕ
  pub k : ℕ
  pub round : ℕ
  pub lo : ℕ → ℕ
  pub hi : ℕ → ℕ
  pub content : ℕ → Bracket

abbrev pub part_of : Team → Group → ℕ → ℕ → ℕ → Piece Bracket
part_of g u p h a = record { tile = g.tile; lo = cut_at (u.lo p) (u.hi p) u.k h; hi = cut_at (u.lo p) (u.hi p) u.k (suc h); content = u.content a }

abbrev pub mates : Group → ℕ → ℕ → Bool
mates u a b = (a / u.w / u.k == b / u.w / u.k) && ((a % u.w == b % u.w) && not (digit u.w u.k b == digit u.w u.k a))

abbrev pub group_swap : Team → Group → Kind → ℕ → ℕ → ℕ → Exchange
group_swap g u kind t p h = record { round = u.round; kind = kind; peer = g.who t; tile = g.tile; lo = cut_at (u.lo p) (u.hi p) u.k h; hi = cut_at (u.lo p) (u.hi p) u.k (suc h) }

-- cut into parts from behind; send all but the own; take the own part from the others; fold from the left
abbrev pub group_cuts : Group → ℕ → ℕ → List Op
group_cuts u p b = Cut 0 (cut_at (u.lo p) (u.hi p) u.k (u.k - 1 - b)) (u.k - 1 - b) ∷ []

abbrev pub group_sends : Team → Group → ℕ → ℕ → List Op
group_sends g u p h = cond (h == digit u.w u.k p) [] (Swap (group_swap g u Send (member u.w u.k p h) p h) h ∷ [])

abbrev pub group_takes : Team → Group → ℕ → ℕ → List Op
group_takes g u p h = cond (h == digit u.w u.k p) [] (Swap (group_swap g u Take (member u.w u.k p h) p (digit u.w u.k p)) h ∷ [])

abbrev pub group_joins : ℕ → List Op
group_joins b = Join 0 (suc b) 0 ∷ []

abbrev pub group_ops : Team → Group → ℕ → List Op
group_ops g u p = (each (group_cuts u p) (u.k - 1) ++ each (group_sends g u p) u.k) ++ (each (group_takes g u p) u.k ++ each group_joins (u.k - 1))

abbrev pub group_messages : Team → Group → ℕ → ℕ → List (MessageView Bracket)
group_messages g u a b = cond (mates u a b) (record { round = u.round; from = g.who a; to = g.who b; piece = part_of g u a (digit u.w u.k b) a } ∷ []) []

-- the fold from the left over the group, up to digit b
abbrev pub group_fold : Group → ℕ → ℕ → Bracket
group_fold u p zero = u.content (member u.w u.k p 0)
group_fold u p (suc b) = Pair (group_fold u p b) (u.content (member u.w u.k p (suc b)))
