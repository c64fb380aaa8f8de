-- The pure core: how far each rank has come, and which rank may make its next exchange.
use Rattle.std.specs.Prelude.{◌≡◌, ℕ, ◌+◌, ◌<◌, ◌≤◌, Bool, cond, ◌==◌, List, [], ◌∷◌, ◌++◌, map, length, get_or, take, set, Option, Some, None, slice_get, filter}
use Rattle.icet_model.specs.declared.exchange.Kind.{Kind}
use Rattle.icet_model.specs.declared.exchange.Kind.TheVariants.{Send, Take}
use Rattle.icet_model.specs.declared.exchange.Exchange.{Exchange}
use Rattle.icet_model.specs.Exchange.{sends_to, takes_from, of_rank}

-- A state is one counter a rank, the number of its exchanges done: `done` lists them by rank, and
-- `all` lists the exchanges by rank.

-- how many of the first n pass the test
abbrev pub passed : (Exchange → Bool) → ℕ → List Exchange → ℕ
passed p n es = length (filter p (take n es))

-- how many messages rank q has sent to rank r
abbrev pub sent : List (List Exchange) → List ℕ → ℕ → ℕ → ℕ
sent all done q r = passed (sends_to r) (get_or done q 0) (of_rank all q)

-- how many messages rank r has taken from rank q
abbrev pub taken : List (List Exchange) → List ℕ → ℕ → ℕ → ℕ
taken all done q r = passed (takes_from q) (get_or done r 0) (of_rank all r)

-- on each pair what was taken was sent before, and at most `cap` messages wait
pub record IsLawful (all : List (List Exchange)) (cap : ℕ) (done : List ℕ) : Type 0 where
  pub ranks : length done ≡ length all
  pub within : (r : ℕ) → get_or done r 0 ≤ length (of_rank all r)
  pub ordered : (q r : ℕ) → taken all done q r ≤ sent all done q r
  pub held : (q r : ℕ) → sent all done q r ≤ taken all done q r + cap

-- the next exchange of a rank
abbrev pub due : List (List Exchange) → List ℕ → ℕ → Option Exchange
due all done r = slice_get (of_rank all r) (get_or done r 0)

-- the ring to the peer has room for a send, or the one from the peer has a message for a take
abbrev pub CanSwap : List (List Exchange) → ℕ → List ℕ → ℕ → Kind → ℕ → Type 0
CanSwap all cap done r Send peer = sent all done r peer < taken all done r peer + cap
CanSwap all cap done r Take peer = taken all done peer r < sent all done peer r

-- the rank has an exchange left, and its ring allows it now
pub record IsEnabled (all : List (List Exchange)) (cap : ℕ) (done : List ℕ) (r : ℕ) : Type 0 where
  pub exchange : Exchange
  pub is_due : due all done r ≡ Some exchange
  pub free : CanSwap all cap done r exchange.kind exchange.peer

-- the counters after the event of a rank, which is its next exchange
abbrev pub after : List ℕ → ℕ → List ℕ
after done r = set done r (get_or done r 0 + 1)

-- the counters after the events of these ranks, one after the other
abbrev pub after_all : List ℕ → List ℕ → List ℕ
after_all done [] = done
after_all done (r ∷ rs) = after_all (after done r) rs

-- each event is enabled where it comes
abbrev pub AreEnabled : List (List Exchange) → ℕ → List ℕ → List ℕ → Type 0
AreEnabled all cap done [] = Unit {0}
AreEnabled all cap done (r ∷ rs) = IsEnabled all cap done r × AreEnabled all cap (after done r) rs

-- every rank is finished
abbrev pub AllDone : List (List Exchange) → List ℕ → Type 0
AllDone all done = (r : ℕ) → get_or done r 0 ≡ length (of_rank all r)

-- nothing is done
abbrev pub start : List (List Exchange) → List ℕ
start all = map (λ _. 0) all

-- how many exchanges the plan has
abbrev pub total : List (List Exchange) → ℕ
total [] = 0
total (es ∷ all) = length es + total all

-- some rank has an exchange left
pub record HasLeft (all : List (List Exchange)) (done : List ℕ) : Type 0 where
  pub rank : ℕ
  pub left : get_or done rank 0 < length (of_rank all rank)

pub record SomeEnabled (all : List (List Exchange)) (cap : ℕ) (done : List ℕ) : Type 0 where
  pub rank : ℕ
  pub ranked : rank < length all
  pub enabled : IsEnabled all cap done rank

-- enabled events lead from one state to the other
pub record Reaches (all : List (List Exchange)) (cap : ℕ) (now then : List ℕ) : Type 0 where
  pub events : List ℕ
  pub enabled : AreEnabled all cap now events
  pub ends : after_all now events ≡ then

abbrev pub due_list : Option Exchange → List Exchange
due_list None = []
due_list (Some e) = e ∷ []

-- the exchanges that a rank makes in a list of events, in order
abbrev pub made : List (List Exchange) → List ℕ → List ℕ → ℕ → List Exchange
made all done [] r = []
made all done (x ∷ xs) r = cond (x == r) (due_list (due all done r)) [] ++ made all (after done x) xs r
