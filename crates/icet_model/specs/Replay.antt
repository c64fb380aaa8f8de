-- The text of a replay: what comes of each rank's try to go on, in the order of a schedule.
use Rattle.std.specs.Prelude.{◌≡◌, ◌<◌, ◌≤◌, ℕ, ◌+◌, Bool, cond, nat_lt, List, [], ◌∷◌, ◌++◌, length, get_or, position, Option, Some, None, codes, decimal}
use Rattle.std.specs.List.{range_with_len}
use Rattle.icet_model.specs.declared.exchange.Kind.{Kind}
use Rattle.icet_model.specs.declared.exchange.Kind.TheVariants.{Send, Take}
use Rattle.icet_model.specs.declared.exchange.Exchange.{Exchange}
use Rattle.icet_model.specs.Exchange.{of_rank}
use Rattle.icet_model.specs.Core.{sent, taken, due, after, start, IsEnabled}
use Rattle.icet_model.specs.Plan.{PlanView, plan_exchanges}

-- what comes of a try
pub data Try : Type 0 where
  Moved : Try
  Stalled : Try
  Done : Try
  Absent : Try

-- the ring allows the exchange now
abbrev pub allows : List (List Exchange) → ℕ → List ℕ → ℕ → Kind → ℕ → Bool
allows all cap done r Send peer = nat_lt (sent all done r peer) (taken all done r peer + cap)
allows all cap done r Take peer = nat_lt (taken all done peer r) (sent all done peer r)

abbrev pub try_of : List (List Exchange) → ℕ → List ℕ → ℕ → Option Exchange → Try
try_of all cap done r None = Done
try_of all cap done r (Some e) = cond (allows all cap done r e.kind e.peer) Moved Stalled

-- a rank of the plan makes its next exchange, is stalled, or has none left
abbrev pub outcome : List (List Exchange) → ℕ → List ℕ → ℕ → Try
outcome all cap done r = cond (nat_lt r (length all)) (try_of all cap done r (due all done r)) Absent

-- what comes of a rank's try tells where the rank stands: it moves exactly where it is a rank of the plan
-- that is enabled, it is done exactly where it has no exchange left, absent exactly where the plan has no
-- such rank, and else stalled
pub record TellsWhereItStands (all : List (List Exchange)) (cap : ℕ) (done : List ℕ) (r : ℕ) : Type 0 where
  pub enabled : r < length all → IsEnabled all cap done r → outcome all cap done r ≡ Moved
  pub moved : outcome all cap done r ≡ Moved → IsEnabled all cap done r
  pub stalled : outcome all cap done r ≡ Stalled → IsEnabled all cap done r → ⊥
  pub none_left : r < length all → due all done r ≡ None → outcome all cap done r ≡ Done
  pub finished : outcome all cap done r ≡ Done → due all done r ≡ None
  pub beyond : length all ≤ r → outcome all cap done r ≡ Absent
  pub absent : outcome all cap done r ≡ Absent → length all ≤ r

-- only an exchange that is made changes the counters
abbrev pub after_try : List ℕ → ℕ → Try → List ℕ
after_try done r Moved = after done r
after_try done r Stalled = done
after_try done r Done = done
after_try done r Absent = done

abbrev pub try_word : Try → List ℕ
try_word Moved = codes " moved\n"
try_word Stalled = codes " stalled\n"
try_word Done = codes " done\n"
try_word Absent = codes " absent\n"

-- the lowest rank that has an exchange left
abbrev pub lowest_left : List (List Exchange) → List ℕ → Option ℕ
lowest_left all done = position (λ r. nat_lt (get_or done r 0) (length (of_rank all r))) (range_with_len 0 (length all))

abbrev pub last_line : Option ℕ → List ℕ
last_line None = codes "finished\n"
last_line (Some r) = (codes "unfinished " ++ decimal r) ++ codes "\n"

-- a line for each number of the schedule, and one for where the ranks stand then
abbrev pub replay_from : List (List Exchange) → ℕ → List ℕ → List ℕ → List ℕ
replay_from all cap done [] = last_line (lowest_left all done)
replay_from all cap done (r ∷ schedule) = (decimal r ++ try_word (outcome all cap done r)) ++ replay_from all cap (after_try done r (outcome all cap done r)) schedule

-- the replay of a plan from its start, where each ring holds `cap` messages
abbrev pub replay_text : PlanView → ℕ → List ℕ → List ℕ
replay_text plan cap schedule = replay_from (plan_exchanges plan) cap (start (plan_exchanges plan)) schedule
