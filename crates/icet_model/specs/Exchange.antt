-- Exchanges: their order in a program, and what a send and its take have alike.
use Rattle.std.specs.Prelude.{◌≡◌, ℕ, ◌+◌, ◌*◌, ◌<◌, ◌≤◌, Bool, false, ◌==◌, List, [], ◌∷◌, ◌++◌, get_or}
use Rattle.std.specs.List.{AllByRecursion}
use Rattle.icet_model.specs.declared.exchange.Kind.{Kind}
use Rattle.icet_model.specs.declared.exchange.Kind.TheVariants.{Send, Take}
use Rattle.icet_model.specs.declared.exchange.Exchange.{Exchange}
use Rattle.icet_model.specs.declared.exchange.Op.{Op}
use Rattle.icet_model.specs.declared.exchange.Op.TheVariants.{Load, Blank, Cut, Join, Swap, Keep}

-- the round and the kind as one number, sends before takes
abbrev pub key_of : ℕ → Kind → ℕ
key_of round Send = 2 * round
key_of round Take = 2 * round + 1

abbrev pub key : Exchange → ℕ
key e = key_of e.round e.kind

abbrev pub is_send_of : Kind → ℕ → ℕ → Bool
is_send_of Send peer r = peer == r
is_send_of Take peer r = false

abbrev pub is_take_of : Kind → ℕ → ℕ → Bool
is_take_of Send peer q = false
is_take_of Take peer q = peer == q

-- it sends to rank r
abbrev pub sends_to : ℕ → Exchange → Bool
sends_to r e = is_send_of e.kind e.peer r

-- it takes from rank q
abbrev pub takes_from : ℕ → Exchange → Bool
takes_from q e = is_take_of e.kind e.peer q

-- f may stand behind e in one program: its key isn't lower, and with the same peer it is higher
pub record Follows (e f : Exchange) : Type 0 where
  pub later : key e ≤ key f
  pub apart : e.peer ≡ f.peer → key e < key f

-- each exchange may stand behind all before it
abbrev pub IsRising : List Exchange → Type 0
IsRising [] = Unit {0}
IsRising (e ∷ es) = AllByRecursion (Follows e) es × IsRising es

-- what a send and its take have alike: the round, the tile and the range of positions
pub record Heading : Type 0 where
  pub round : ℕ
  pub tile : ℕ
  pub lo : ℕ
  pub hi : ℕ

abbrev pub heading : Exchange → Heading
heading e = record { round = e.round; tile = e.tile; lo = e.lo; hi = e.hi }

-- the exchange of an operation, if it is one
abbrev pub of_op : Op → List Exchange
of_op (Load tile slot) = []
of_op (Blank tile slot) = []
of_op (Cut slot at into) = []
of_op (Join front back into) = []
of_op (Swap exchange slot) = exchange ∷ []
of_op (Keep slot) = []

-- the exchanges of a program, in its order
abbrev pub exchanges : List Op → List Exchange
exchanges [] = []
exchanges (op ∷ ops) = of_op op ++ exchanges ops

-- the exchanges of one rank, where they are listed by rank; a rank beyond the list has none
abbrev pub of_rank : List (List Exchange) → ℕ → List Exchange
of_rank all r = get_or all r []
