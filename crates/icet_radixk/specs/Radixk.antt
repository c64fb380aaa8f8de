-- Radix-k: the rounds of groups of `icet_legs`, and the collection. `factor i` is the factor of round i, counted from 0.
use Rattle.std.specs.Prelude.{◌≡◌, ℕ, zero, suc, ◌+◌, ◌<◌, true, List, [], ◌∷◌, ◌++◌, length, map, take, drop}
use Rattle.std.specs.List.{range_with_len}
use Rattle.icet_model.specs.BracketFold.{left}
use Rattle.icet_model.specs.declared.bracket.Bracket.{Bracket}
use Rattle.icet_model.specs.declared.bracket.Bracket.TheVariants.{Empty}
use Rattle.icet_model.specs.declared.exchange.Op.{Op}
use Rattle.icet_model.specs.Run.{MessageView, Piece}
use Rattle.icet_model.specs.Flow.{Messages}
use Rattle.icet_legs.specs.Team.{Team, by_pos}
use Rattle.icet_legs.specs.Collect.{Final, collect_ops, collect_messages, final_kept, final_messages, final_ops, OneHolds}
use Rattle.icet_legs.specs.Radix.{group_at, stride, range_of, radix_ops, radix_messages}
use Rattle.icet_legs.specs.TileStrategy.{TileStrategy}
use Rattle.icet_legs.specs.Group.{group_messages, group_ops}
use Rattle.icet_plan.specs.Each.{each}
use Rattle.icet_radixk.specs.Factors.{factor_at, factors}

-- the factors of the first q rounds are those of n
pub record AreFactorsOf (n : ℕ) (factor : ℕ → ℕ) (q : ℕ) : Type 0 where
  pub many : (i : ℕ) → 0 < factor i
  pub product : n ≡ stride factor q

-- each k neighbours folded from the left; the first number bounds how many folds there are
abbrev pub folded_by : ℕ → ℕ → List Bracket → List Bracket
folded_by zero k xs = []
folded_by (suc m) k [] = []
folded_by (suc m) k (x ∷ xs) = left (take k (x ∷ xs)) ∷ folded_by m k (drop k (x ∷ xs))

abbrev pub folded : ℕ → List Bracket → List Bracket
folded k xs = folded_by (length xs) k xs

-- each k_1 neighbours are folded, then each k_2 of the results, and so on
abbrev pub radix_fold : (ℕ → ℕ) → ℕ → List Bracket → List Bracket
radix_fold factor zero xs = xs
radix_fold factor (suc i) xs = folded (factor i) (radix_fold factor i xs)

abbrev pub first_of : List Bracket → Bracket
first_of [] = Empty
first_of (x ∷ xs) = x

abbrev pub radix_bracket : (ℕ → ℕ) → ℕ → List Bracket → Bracket
radix_bracket factor q xs = first_of (radix_fold factor q xs)

-- the final pieces: each participant has its last range
abbrev pub radix_finals : Team → (ℕ → ℕ) → ℕ → ℕ → Final
radix_finals g factor q shows = record {
  holds = λ a. true;
  lo = λ a. (range_of factor g.size q a).0;
  hi = λ a. (range_of factor g.size q a).1;
  content = radix_bracket factor q (map g.leaf (range_with_len 0 g.n));
  round = g.first + q;
  shows = shows;
}

-- by position: the program, what one position sends to another, and what it keeps for display
abbrev pub radix_program : Team → (ℕ → ℕ) → ℕ → ℕ → ℕ → List Op
radix_program g factor q shows p = each (λ i. group_ops g (group_at g factor i) p) q ++ final_ops g (radix_finals g factor q shows) p

abbrev pub radix_sent : Team → (ℕ → ℕ) → ℕ → ℕ → ℕ → ℕ → List (MessageView Bracket)
radix_sent g factor q shows a b = each (λ i. group_messages g (group_at g factor i) a b) q ++ final_messages g (radix_finals g factor q shows) a b

abbrev pub radix_kept : Team → (ℕ → ℕ) → ℕ → ℕ → ℕ → List (Piece Bracket)
radix_kept g factor q shows p = final_kept g (radix_finals g factor q shows) p

-- by rank, round by round
abbrev pub radix_leg_ops : Team → (ℕ → ℕ) → ℕ → ℕ → ℕ → List Op
radix_leg_ops g factor q shows r = radix_ops g factor q r ++ collect_ops g (radix_finals g factor q shows) r

abbrev pub radix_leg_messages : Team → (ℕ → ℕ) → ℕ → ℕ → Messages Bracket
radix_leg_messages g factor q shows a b = radix_messages g factor q a b ++ collect_messages g (radix_finals g factor q shows) a b

abbrev pub radix_leg_kept : Team → (ℕ → ℕ) → ℕ → ℕ → ℕ → List (Piece Bracket)
radix_leg_kept g factor q shows r = by_pos [] (radix_kept g factor q shows) (g.pos r)

-- radix-k as a strategy for one tile: a round for each factor, and the collection
abbrev pub radix_strategy : ℕ → TileStrategy
radix_strategy k = record {
  rounds = λ n. suc (length (factors k n));
  bracket = λ leaves. radix_bracket (factor_at (factors k (length leaves))) (length (factors k (length leaves))) leaves;
  program = λ g shows p. radix_program g (factor_at (factors k g.n)) (length (factors k g.n)) shows p;
  messages = λ g shows a b. radix_sent g (factor_at (factors k g.n)) (length (factors k g.n)) shows a b;
  kept = λ g shows p. radix_kept g (factor_at (factors k g.n)) (length (factors k g.n)) shows p;
}

-- the final pieces of the strategy
abbrev pub finals_by : ℕ → Team → ℕ → Final
finals_by k g shows = radix_finals g (factor_at (factors k g.n)) (length (factors k g.n)) shows

-- after the last round each position of the tile is held by exactly one participant, for any k
abbrev pub EachPositionIsHeldOnce : Type 0
EachPositionIsHeldOnce = (k : ℕ) (g : Team) (shows : ℕ) → shows < g.n → (x : ℕ) → x < g.size → OneHolds g.n (finals_by k g shows) x
