-- The texts of a plan. All numbers are decimal; each line ends with a newline.
use Rattle.std.specs.Prelude.{ℕ, List, [], ◌∷◌, ◌++◌, length, get_or, cond, codes, decimal}
use Rattle.std.specs.List.{flat_map, range_with_len}
use Rattle.icet_model.specs.declared.bracket.Bracket.{Bracket, Empty, Leaf, Pair', more_of-Bracket}
use Rattle.icet_model.specs.declared.exchange.Kind.{Kind}
use Rattle.icet_model.specs.declared.exchange.Kind.TheVariants.{Send, Take}
use Rattle.icet_model.specs.declared.exchange.Exchange.{Exchange}
use Rattle.icet_model.specs.Exchange.{of_rank, sends_to}
use Rattle.icet_model.specs.Plan.{PlanView, plan_exchanges}

-- a number behind a space
abbrev pub spaced : ℕ → List ℕ
spaced n = codes " " ++ decimal n

-- the tile of an exchange and its range of positions, up to the end of the line
abbrev pub place_words : Exchange → List ℕ
place_words e = (spaced e.tile ++ spaced e.lo) ++ (spaced e.hi ++ codes "\n")

-- who sends to whom in which round, and the place
abbrev pub message_line : ℕ → Exchange → List ℕ
message_line from e = (decimal from ++ (spaced e.peer ++ spaced e.round)) ++ place_words e

-- the line of an exchange that sends to a rank, and none for another one
abbrev pub send_text : ℕ → ℕ → Exchange → List ℕ
send_text from to e = cond (sends_to to e) (message_line from e) []

-- a line for each message, ordered by sender, then by receiver, then by round; `all` has each rank's exchanges
abbrev pub sends_text : List (List Exchange) → ℕ → ℕ → List ℕ
sends_text all from to = flat_map (send_text from to) (of_rank all from)

abbrev pub sender_text : List (List Exchange) → ℕ → List ℕ
sender_text all from = flat_map (sends_text all from) (range_with_len 0 (length all))

abbrev pub traffic_text : List (List Exchange) → List ℕ
traffic_text all = flat_map (sender_text all) (range_with_len 0 (length all))

-- a rank's number, a pair of front and back in parentheses, and a dash where there is no image
abbrev pub bracket_text : Bracket → List ℕ
bracket_text Empty = codes "-"
bracket_text (Leaf rank) = decimal rank
bracket_text (Pair' s (more_of-Bracket front u) t (more_of-Bracket back v)) = (((codes "(" ++ bracket_text front) ++ codes " ") ++ bracket_text back) ++ codes ")"

abbrev pub tile_line : ℕ → Bracket → List ℕ
tile_line tile bracket = ((codes "tile " ++ decimal tile) ++ codes " ") ++ (bracket_text bracket ++ codes "\n")

abbrev pub kind_word : Kind → List ℕ
kind_word Send = codes " send"
kind_word Take = codes " take"

abbrev pub exchange_line : ℕ → Exchange → List ℕ
exchange_line rank e = ((codes "rank " ++ decimal rank) ++ kind_word e.kind) ++ ((spaced e.round ++ spaced e.peer) ++ place_words e)

-- the line of each tile with its bracket
abbrev pub tile_text : List Bracket → ℕ → List ℕ
tile_text brackets tile = tile_line tile (get_or brackets tile Empty)

abbrev pub brackets_text : List Bracket → List ℕ
brackets_text brackets = flat_map (tile_text brackets) (range_with_len 0 (length brackets))

-- the lines of each rank's exchanges, in the order of its program
abbrev pub program_text : List (List Exchange) → ℕ → List ℕ
program_text all rank = flat_map (exchange_line rank) (of_rank all rank)

abbrev pub programs_text : List (List Exchange) → List ℕ
programs_text all = flat_map (program_text all) (range_with_len 0 (length all))

-- the brackets, and behind them the exchanges
abbrev pub plan_text : List Bracket → List (List Exchange) → List ℕ
plan_text brackets all = brackets_text brackets ++ programs_text all
