-- The tree strategy: programs and messages, round by round.
use Rattle.std.specs.Prelude.{ℕ, map, length, zero, suc, ◌+◌, ◌-◌, ◌*◌, ◌%◌, ◌^◌, Bool, cond, ◌&&◌, ◌==◌, nat_le, nat_lt, List, [], ◌∷◌, ◌++◌}
use Rattle.icet_legs.specs.Collect.{Final, collect_messages, collect_ops, final_kept, final_messages, final_ops}
use Rattle.icet_plan.specs.Each.{each}
use Rattle.icet_legs.specs.Powers.{ceil_log2}
use Rattle.icet_legs.specs.TileStrategy.{TileStrategy}
use Rattle.icet_legs.specs.Pairing.{tree}
use Rattle.icet_legs.specs.Team.{Team, by_pair, by_pos}
use Rattle.icet_model.specs.Flow.{Messages}
use Rattle.icet_model.specs.Run.{MessageView, Piece}
use Rattle.icet_model.specs.declared.bracket.Bracket.{Bracket}
use Rattle.icet_model.specs.declared.bracket.Bracket.TheVariants.{Pair}
use Rattle.icet_model.specs.declared.exchange.Exchange.{Exchange}
use Rattle.icet_model.specs.declared.exchange.Kind.{Kind}
use Rattle.icet_model.specs.declared.exchange.Kind.TheVariants.{Send, Take}
use Rattle.icet_model.specs.declared.exchange.Op.{Op}
use Rattle.icet_model.specs.declared.exchange.Op.TheVariants.{Join, Swap}
use Rattle.icet_legs.specs.Task.{TaskView, task_team}
use Rattle.std.specs.List.{range_with_len}

-- in round i, with w = 2 ^ i: p takes from p + w, and q gives to q - w
abbrev pub takes : ℕ → ℕ → ℕ → Bool
takes n w p = (p % (2 * w) == 0) && nat_lt (p + w) n

abbrev pub gives : ℕ → ℕ → ℕ → Bool
gives n w q = nat_le w q && takes n w (q - w)

abbrev pub tree_of : Team → ℕ → ℕ → Bracket
tree_of g p zero = g.leaf p
tree_of g p (suc i) = cond (nat_lt (p + 2 ^ i) g.n) (Pair (tree_of g p i) (tree_of g (p + 2 ^ i) i)) (tree_of g p i)

abbrev pub tree_swap : Team → ℕ → Kind → ℕ → Exchange
tree_swap g i k t = record { round = g.first + i; kind = k; peer = g.who t; tile = g.tile; lo = 0; hi = g.size }

abbrev pub tree_piece : Team → ℕ → ℕ → Piece Bracket
tree_piece g i p = record { tile = g.tile; lo = 0; hi = g.size; content = tree_of g p i }

abbrev pub tree_ops : Team → ℕ → ℕ → List Op
tree_ops g i p = cond (gives g.n (2 ^ i) p) (Swap (tree_swap g i Send (p - 2 ^ i)) 0 ∷ [])
    (cond (takes g.n (2 ^ i) p) (Swap (tree_swap g i Take (p + 2 ^ i)) 1 ∷ Join 0 1 0 ∷ []) [])

-- what a sends to b in round i
abbrev pub tree_messages : Team → ℕ → ℕ → ℕ → List (MessageView Bracket)
tree_messages g i a b = cond (takes g.n (2 ^ i) b && (b + 2 ^ i == a)) (record { round = g.first + i; from = g.who a; to = g.who b; piece = tree_piece g i a } ∷ []) []

abbrev pub round_ops : Team → ℕ → ℕ → List Op
round_ops g i r = by_pos [] (tree_ops g i) (g.pos r)

abbrev pub round_messages : Team → ℕ → Messages Bracket
round_messages g i q r = by_pair (tree_messages g i) (g.pos q) (g.pos r)

-- the first m rounds
abbrev pub rounds_ops : Team → ℕ → ℕ → List Op
rounds_ops g zero r = []
rounds_ops g (suc m) r = rounds_ops g m r ++ round_ops g m r

abbrev pub rounds_messages : Team → ℕ → Messages Bracket
rounds_messages g zero q r = []
rounds_messages g (suc m) q r = rounds_messages g m q r ++ round_messages g m q r

-- the participants' brackets at p, p + 2^i, p + 2 * 2^i and so on
abbrev pub level : Team → ℕ → ℕ → ℕ → List Bracket
level g i zero p = []
level g i (suc k) p = cond (nat_lt p g.n) (tree_of g p i ∷ level g i k (p + 2 ^ i)) []

-- the tree: position 0 holds all in the end
abbrev pub tree_final : Team → ℕ → ℕ → Final
tree_final g m shows = record { holds = λ a. a == 0; lo = λ a. 0; hi = λ a. g.size; content = tree_of g 0 m; round = g.first + m; shows = shows }

abbrev pub tree_leg_ops : Team → ℕ → ℕ → ℕ → List Op
tree_leg_ops g m shows r = rounds_ops g m r ++ collect_ops g (tree_final g m shows) r

abbrev pub tree_leg_messages : Team → ℕ → ℕ → ℕ → ℕ → List (MessageView Bracket)
tree_leg_messages g m shows q r = rounds_messages g m q r ++ collect_messages g (tree_final g m shows) q r

-- what a rank keeps in the end
abbrev pub tree_leg_kept : Team → ℕ → ℕ → ℕ → List (Piece Bracket)
tree_leg_kept g m shows r = by_pos [] (final_kept g (tree_final g m shows)) (g.pos r)

-- the same by position: the program, what one position sends to another
abbrev pub tree_program : Team → ℕ → ℕ → ℕ → List Op
tree_program g q shows p = each (λ i. tree_ops g i p) q ++ final_ops g (tree_final g q shows) p

abbrev pub tree_sent : Team → ℕ → ℕ → ℕ → ℕ → List (MessageView Bracket)
tree_sent g q shows a b = each (λ i. tree_messages g i a b) q ++ final_messages g (tree_final g q shows) a b

-- the tree as a strategy for one tile: of n participants in as many rounds as n can be halved, rounded up, and the collection
abbrev pub tree_strategy : TileStrategy
tree_strategy = record {
  rounds = λ n. suc (ceil_log2 n);
  bracket = tree;
  program = λ g shows p. tree_program g (ceil_log2 g.n) shows p;
  messages = λ g shows a b. tree_sent g (ceil_log2 g.n) shows a b;
  kept = λ g shows p. final_kept g (tree_final g (ceil_log2 g.n) shows) p;
}

-- the programs of a task's participants, by position, and the rounds of one of them before the collection
abbrev pub tree_programs : TaskView → ℕ → List (List Op)
tree_programs task levels = map (tree_program (task_team task) levels task.shows) (range_with_len 0 (length task.participants))

abbrev pub tree_rounds : TaskView → ℕ → ℕ → List Op
tree_rounds task levels p = each (λ i. tree_ops (task_team task) i p) levels
