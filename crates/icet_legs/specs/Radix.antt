-- The radix-k strategy: rounds of groups by the factors.
use Rattle.std.specs.Prelude.{ℕ, zero, suc, ◌+◌, ◌-◌, ◌*◌, List, [], ◌++◌}
use Rattle.icet_legs.specs.Group.{Group, cut_at, digit, group_messages, group_ops, member}
use Rattle.icet_legs.specs.Team.{Team, by_pair, by_pos}
use Rattle.icet_model.specs.Flow.{Messages}
use Rattle.icet_model.specs.declared.bracket.Bracket.{Bracket}
use Rattle.icet_model.specs.declared.bracket.Bracket.TheVariants.{Pair}
use Rattle.icet_model.specs.declared.exchange.Op.{Op}

-- the product of the factors before round i
abbrev pub stride : (ℕ → ℕ) → ℕ → ℕ
stride factor zero = 1
stride factor (suc i) = factor i * stride factor i

-- the range of p before round i, its start and its end
abbrev pub range_of : (ℕ → ℕ) → ℕ → ℕ → ℕ → ℕ × ℕ
range_of factor size zero p = (0, size)
range_of factor size (suc i) p = (
  cut_at (range_of factor size i p).0 (range_of factor size i p).1 (factor i) (digit (stride factor i) (factor i) p),
  cut_at (range_of factor size i p).0 (range_of factor size i p).1 (factor i) (suc (digit (stride factor i) (factor i) p)),
)

-- the fold from the left over a group's brackets
abbrev pub left_of : (ℕ → Bracket) → ℕ → Bracket
left_of f zero = f 0
left_of f (suc b) = Pair (left_of f b) (f (suc b))

-- the bracket of p before round i
abbrev pub radix_of : Team → (ℕ → ℕ) → ℕ → ℕ → Bracket
radix_of g factor zero p = g.leaf p
radix_of g factor (suc i) p = left_of (λ h. radix_of g factor i (member (stride factor i) (factor i) p h)) (factor i - 1)

abbrev pub group_at : Team → (ℕ → ℕ) → ℕ → Group
group_at g factor i = record {
  w = stride factor i;
  k = factor i;
  round = g.first + i;
  lo = λ p. (range_of factor g.size i p).0;
  hi = λ p. (range_of factor g.size i p).1;
  content = radix_of g factor i;
}

abbrev pub radix_ops : Team → (ℕ → ℕ) → ℕ → ℕ → List Op
radix_ops g factor zero r = []
radix_ops g factor (suc i) r = radix_ops g factor i r ++ by_pos [] (group_ops g (group_at g factor i)) (g.pos r)

abbrev pub radix_messages : Team → (ℕ → ℕ) → ℕ → Messages Bracket
radix_messages g factor zero q r = []
radix_messages g factor (suc i) q r = radix_messages g factor i q r ++ by_pair (group_messages g (group_at g factor i)) (g.pos q) (g.pos r)
