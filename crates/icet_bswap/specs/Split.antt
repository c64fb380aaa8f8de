-- Participants of binary-swap as couples that fold and swappers, and the swappers' final pieces as a list.
use Rattle.std.specs.Prelude.{map, [], ◌≡◌, ℕ, ◌+◌, ◌^◌, ◌<◌, List, Option, None, get_or, length}
use Rattle.std.specs.Option.{option_map}
use Rattle.icet_legs.specs.declared.range.Range.{Range}
use Rattle.icet_legs.specs.Task.{IsTask, TaskView, task_team}
use Rattle.icet_bswap.specs.declared.split.Split.{Split}
use Rattle.icet_bswap.specs.Bswap.{folding, leg_ops, range, swap_ops, swapper, swappers}
use Rattle.std.specs.List.{range_with_len}
use Rattle.icet_model.specs.declared.exchange.Op.{Op}
use Rattle.icet_plan.specs.Each.{each}
use Rattle.icet_legs.specs.Merge.{merge_ops}
use Rattle.icet_legs.specs.Team.{by_pos}

-- the split of a task's participants
pub record IsSplit (x : TaskView) (split : Split) : Type 0 where
  pub task : IsTask x
  pub count : length x.participants ≡ 2 ^ split.m + split.e
  pub few : split.e < 2 ^ split.m

-- the range of the final piece at position p, if a swapper sits there
abbrev pub final_range : ℕ → Split → ℕ → Option Range
final_range pixels split p = option_map (λ s. record { lo = (range pixels split.m s).0; hi = (range pixels split.m s).1 }) (swapper split.e p)

-- those of n positions
pub record AreFinals (n pixels : ℕ) (split : Split) (ranges : List (Option Range)) : Type 0 where
  pub count : length ranges ≡ n
  pub are : (a : ℕ) → a < n → get_or ranges a None ≡ final_range pixels split a

-- what the participant at position p does to fold
abbrev pub folding_ops : TaskView → Split → ℕ → List Op
folding_ops task split p = merge_ops (task_team task) (folding (task_team task) split.e) p

-- what swapper s does in round i, and in all rounds
abbrev pub round_ops : TaskView → Split → ℕ → ℕ → List Op
round_ops task split i s = swap_ops (swappers (task_team task) split.e) i s

abbrev pub rounds_ops : TaskView → Split → ℕ → List Op
rounds_ops task split s = each (λ i. round_ops task split i s) split.m

-- what the participant at position p does there, if a swapper sits there
abbrev pub swapping_ops : TaskView → Split → ℕ → List Op
swapping_ops task split p = by_pos [] (rounds_ops task split) (swapper split.e p)

-- the programs of all participants, by position
abbrev pub swap_programs : TaskView → Split → List (List Op)
swap_programs task split = map (leg_ops (task_team task) split.m split.e task.shows) (range_with_len 0 (length task.participants))
