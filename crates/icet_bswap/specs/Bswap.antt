-- Binary swap: of 2 ^ m + e participants the first e couples fold, so that 2 ^ m swappers are left; these
-- halve their pieces in pairs, round by round; the final pieces go to the tile's display.
use Rattle.std.specs.Prelude.{◌≡◌, ℕ, zero, suc, ◌+◌, ◌-◌, ◌*◌, ◌/◌, ◌%◌, ◌^◌, ◌<◌, true, false, cond, ◌&&◌, ◌==◌, nat_lt, List, [], ◌∷◌, ◌++◌, length, map, Option, Some, None}
use Rattle.std.specs.Option.{option_and_then}
use Rattle.std.specs.List.{range_with_len}
use Rattle.icet_model.specs.declared.bracket.Bracket.{Bracket}
use Rattle.icet_model.specs.declared.exchange.Kind.{Kind}
use Rattle.icet_model.specs.declared.exchange.Kind.TheVariants.{Send, Take}
use Rattle.icet_model.specs.declared.exchange.Exchange.{Exchange}
use Rattle.icet_model.specs.declared.exchange.Op.{Op}
use Rattle.icet_model.specs.declared.exchange.Op.TheVariants.{Cut, Join, Swap}
use Rattle.icet_model.specs.Run.{Piece, MessageView}
use Rattle.icet_model.specs.Flow.{Messages}
use Rattle.icet_plan.specs.Each.{each}
use Rattle.icet_legs.specs.Powers.{floor_log2}
use Rattle.icet_legs.specs.TileStrategy.{TileStrategy}
use Rattle.icet_legs.specs.Team.{Team, by_pos, by_pair}
use Rattle.icet_legs.specs.Merge.{Merge, merge_ops, merge_messages, merged}
use Rattle.icet_legs.specs.Collect.{Final, final_ops, final_messages, final_kept}
use Rattle.icet_legs.specs.Pairing.{tree, couples}

-- a leg with so many participants, of which the one at position `shows` shows the tile
pub record IsSwap (g : Team) (m e shows : ℕ) : Type 0 where
  pub count : g.n ≡ 2 ^ m + e
  pub few : e < 2 ^ m
  pub shown : shows < g.n

-- the first round: the participant at 2 j + 1 gives its whole image to the one at 2 j, for each j below e
abbrev pub folding : Team → ℕ → Merge
folding g e = record { w = 1; round = g.first; takes = λ p. (p % 2 == 0) && nat_lt p (2 * e); content = g.leaf }

-- at which position swapper s sits
abbrev pub seat : ℕ → ℕ → ℕ
seat e s = cond (nat_lt s e) (2 * s) (s + e)

-- which swapper sits at position p, if one does
abbrev pub swapper : ℕ → ℕ → Option ℕ
swapper e p = cond (nat_lt p (2 * e)) (cond (p % 2 == 0) (Some (p / 2)) None) (Some (p - e))

-- the swappers, with what they have behind the folding
abbrev pub swappers : Team → ℕ → Team
swappers g e = record {
  n = g.n - e;
  who = λ s. g.who (seat e s);
  pos = λ r. option_and_then (swapper e) (g.pos r);
  leaf = λ s. merged (folding g e) (seat e s);
  tile = g.tile;
  size = g.size;
  first = suc g.first;
}

-- swapper s's digit in round i of the swapping, counted from 0
abbrev pub side : ℕ → ℕ → ℕ
side i s = (s / 2 ^ i) % 2

-- the swapper that differs from s in that digit
abbrev pub partner : ℕ → ℕ → ℕ
partner i s = cond (side i s == 0) (s + 2 ^ i) (s - 2 ^ i)

abbrev pub other : ℕ → ℕ
other zero = 1
other (suc d) = 0

abbrev pub middle : ℕ × ℕ → ℕ
middle r = r.0 + (r.1 - r.0) / 2

-- the lower half of a range for digit 0, the upper one for digit 1
abbrev pub half : ℕ → ℕ × ℕ → ℕ × ℕ
half zero r = (r.0, middle r)
half (suc d) r = (middle r, r.1)

-- what swapper s has of so many positions before round i
abbrev pub range : ℕ → ℕ → ℕ → ℕ × ℕ
range size zero s = (0, size)
range size (suc i) s = half (side i s) (range size i s)

-- the bracket of swapper s before round i: the tree over the aligned block of 2 ^ i swappers that holds s;
-- here and below g has the swappers
abbrev pub block : Team → ℕ → ℕ → Bracket
block g i s = tree (map g.leaf (range_with_len (s / 2 ^ i * 2 ^ i) (2 ^ i)))

-- the exchange with the partner of the half of that digit
abbrev pub half_swap : Team → ℕ → Kind → ℕ → ℕ → Exchange
half_swap g i kind s d = record { round = g.first + i; kind = kind; peer = g.who (partner i s); tile = g.tile; lo = (half d (range g.size i s)).0; hi = (half d (range g.size i s)).1 }

abbrev pub swap_ops : Team → ℕ → ℕ → List Op
swap_ops g i s =
    Cut 0 (middle (range g.size i s)) 1
    ∷ Swap (half_swap g i Send s (other (side i s))) (other (side i s))
    ∷ Swap (half_swap g i Take s (side i s)) (other (side i s))
    ∷ Join 0 1 0
    ∷ []

-- what swapper a sends to swapper b in round i: the range that b has behind the round
abbrev pub swap_messages : Team → ℕ → ℕ → ℕ → List (MessageView Bracket)
swap_messages g i a b = cond (partner i a == b) (record {
  round = g.first + i;
  from = g.who a;
  to = g.who b;
  piece = record { tile = g.tile; lo = (range g.size (suc i) b).0; hi = (range g.size (suc i) b).1; content = block g i a };
} ∷ []) []

-- the bracket of the whole: the first e couples are paired, and then the list goes by tree
abbrev pub bswap_bracket : Team → ℕ → Bracket
bswap_bracket g e = tree (couples e (map g.leaf (range_with_len 0 g.n)))

-- the final pieces: each swapper has its last range
abbrev pub finals : Team → ℕ → ℕ → ℕ → Final
finals g m e shows = record {
  holds = λ p. by_pos false (λ s. true) (swapper e p);
  lo = λ p. by_pos 0 (λ s. (range g.size m s).0) (swapper e p);
  hi = λ p. by_pos 0 (λ s. (range g.size m s).1) (swapper e p);
  content = bswap_bracket g e;
  round = suc (g.first + m);
  shows = shows;
}

-- the program of the participant at position p
abbrev pub leg_ops : Team → ℕ → ℕ → ℕ → ℕ → List Op
leg_ops g m e shows p = (merge_ops g (folding g e) p ++ by_pos [] (λ s. each (λ i. swap_ops (swappers g e) i s) m) (swapper e p)) ++ final_ops g (finals g m e shows) p

-- what the participant at position a sends to the one at b
abbrev pub leg_messages : Team → ℕ → ℕ → ℕ → ℕ → ℕ → List (MessageView Bracket)
leg_messages g m e shows a b = (merge_messages g (folding g e) a b ++ by_pair (λ s u. each (λ i. swap_messages (swappers g e) i s u) m) (swapper e a) (swapper e b)) ++ final_messages g (finals g m e shows) a b

-- what the participant at position p keeps: the display its own final piece and those of all others
abbrev pub leg_kept : Team → ℕ → ℕ → ℕ → ℕ → List (Piece Bracket)
leg_kept g m e shows p = final_kept g (finals g m e shows) p

-- by rank
abbrev pub bswap_ops : Team → ℕ → ℕ → ℕ → ℕ → List Op
bswap_ops g m e shows r = by_pos [] (leg_ops g m e shows) (g.pos r)

abbrev pub bswap_messages : Team → ℕ → ℕ → ℕ → Messages Bracket
bswap_messages g m e shows q r = by_pair (leg_messages g m e shows) (g.pos q) (g.pos r)

abbrev pub bswap_kept : Team → ℕ → ℕ → ℕ → ℕ → List (Piece Bracket)
bswap_kept g m e shows r = by_pos [] (leg_kept g m e shows) (g.pos r)

-- how many couples of n participants fold
abbrev pub fold_count : ℕ → ℕ
fold_count n = n - 2 ^ floor_log2 n

-- binary-swap as a strategy for one tile: of n participants in the folding, as many rounds as n can be halved, rounded down, and the collection
abbrev pub bswap_strategy : TileStrategy
bswap_strategy = record {
  rounds = λ n. floor_log2 n + 2;
  bracket = λ leaves. tree (couples (fold_count (length leaves)) leaves);
  program = λ g shows p. leg_ops g (floor_log2 g.n) (fold_count g.n) shows p;
  messages = λ g shows a b. leg_messages g (floor_log2 g.n) (fold_count g.n) shows a b;
  kept = λ g shows p. leg_kept g (floor_log2 g.n) (fold_count g.n) shows p;
}

-- the final pieces of the strategy
abbrev pub bswap_finals : Team → ℕ → Final
bswap_finals g shows = finals g (floor_log2 g.n) (fold_count g.n) shows
