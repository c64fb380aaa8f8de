-- What the types of this crate keep.
use Rattle.std.specs.Prelude.{◌≡◌, ℕ, ◌+◌, ◌<◌, ◌≤◌, ◌^◌, List, length, get_or, map}
use Rattle.icet_model.specs.declared.exchange.Exchange.{Exchange}
use Rattle.icet_model.specs.Exchange.{of_rank}
use Rattle.icet_model.specs.Plan.{PlanView, IsPlan, plan_exchanges}
use Rattle.icet_model.specs.Core.{after, start, sent, taken, CanSwap, IsLawful, IsEnabled}
use Rattle.icet_model.specs.declared.exchange.Kind.{Kind}
use Rattle.icet_plan.specs.Pairs.{PairsView, count_at}
use Rattle.icet_plan.specs.Places.{places}

-- a plan, with the places of each rank's exchanges beside its program
pub record KeepsPlan (plan : PlanView) (index : List (List ℕ)) : Type 0 where
  pub is_plan : IsPlan plan
  pub tiles : length plan.tiles.sizes < 2 ^ 32
  pub ranks : length plan.programs < 2 ^ 32
  pub index_is : index ≡ map places plan.programs

-- what contracts see of a core: the plan, how many messages a ring holds, and how many exchanges
-- each rank has done
pub record CoreView : Type 0 where
  pub plan : PlanView
  pub cap : ℕ
  pub done : List ℕ

-- the exchanges of a core's plan, by rank
abbrev pub all_of : CoreView → List (List Exchange)
all_of core = plan_exchanges core.plan

-- a table that has a number for each ordered pair of ranks
pub record IsTable (ranks : ℕ) (count : ℕ → ℕ → ℕ) (table : PairsView) : Type 0 where
  pub ranks_are : table.ranks ≡ ranks
  pub entries : (q r : ℕ) → q < ranks → r < ranks → count_at table q r ≡ count q r

-- a core, with how many messages each pair has sent and taken beside the counters of the ranks
pub record KeepsCore (core : CoreView) (sent_table taken_table : PairsView) : Type 0 where
  pub is_plan : IsPlan core.plan
  pub ranks : length core.plan.programs < 2 ^ 32
  pub cap_low : 1 ≤ core.cap
  pub lawful : IsLawful (all_of core) core.cap core.done
  pub sent_are : IsTable (length core.plan.programs) (sent (all_of core) core.done) sent_table
  pub taken_are : IsTable (length core.plan.programs) (taken (all_of core) core.done) taken_table

-- the rank may make its next exchange now
abbrev pub CanGo : CoreView → ℕ → Type 0
CanGo core r = IsEnabled (all_of core) core.cap core.done r

-- the lowest rank that may make its next exchange now
pub record IsLowest (core : CoreView) (r : ℕ) : Type 0 where
  pub ranked : r < length core.plan.programs
  pub enabled : CanGo core r
  pub lowest : (q : ℕ) → q < r → CanGo core q → ⊥

-- the lowest rank that has an exchange left
pub record IsLowestLeft (core : CoreView) (r : ℕ) : Type 0 where
  pub ranked : r < length core.plan.programs
  pub left : get_or core.done r 0 < length (of_rank (all_of core) r)
  pub lowest : (q : ℕ) → q < r → get_or core.done q 0 ≡ length (of_rank (all_of core) q)

-- one more exchange of the rank is done
abbrev pub gone : CoreView → ℕ → CoreView
gone core r = record { plan = core.plan; cap = core.cap; done = after core.done r }

-- the exchange of a rank with its peer can be made where the core stands
abbrev pub CanMake : CoreView → ℕ → Kind → ℕ → Type 0
CanMake core rank kind peer = CanSwap (all_of core) core.cap core.done rank kind peer

-- a core in which nothing was exchanged yet
abbrev pub core_at_start : PlanView → ℕ → CoreView
core_at_start plan cap = record { plan = plan; cap = cap; done = start (plan_exchanges plan) }

-- the rank has done all its exchanges
abbrev pub HasFinished : CoreView → ℕ → Type 0
HasFinished core rank = get_or core.done rank 0 ≡ length (of_rank (all_of core) rank)

-- so many messages from rank q to rank r were sent and not taken
abbrev pub AreWaiting : CoreView → ℕ → ℕ → ℕ → Type 0
AreWaiting core q r count = sent (all_of core) core.done q r ≡ taken (all_of core) core.done q r + count
