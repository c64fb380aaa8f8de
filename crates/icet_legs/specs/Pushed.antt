-- What a participant of a task does to hand in its final piece, or to collect all.
use Rattle.std.specs.Prelude.{ℕ, ◌+◌, List, Option, length}
use Rattle.icet_model.specs.declared.exchange.Op.{Op}
use Rattle.icet_plan.specs.Each.{each}
use Rattle.icet_legs.specs.declared.range.Range.{Range}
use Rattle.icet_legs.specs.Collect.{Final, display_ops, fetch_ops, final_ops, final_over}
use Rattle.icet_legs.specs.Task.{TaskView, task_team}

-- the final pieces, handed in so many rounds behind the first
abbrev pub finals_in : TaskView → ℕ → List (Option Range) → Final
finals_in task round finals = final_over finals (task.first + round) task.shows

-- what the participant at position p does
abbrev pub collection_of : TaskView → ℕ → List (Option Range) → ℕ → List Op
collection_of task round finals p = final_ops (task_team task) (finals_in task round finals) p

-- what the display does
abbrev pub display_part : TaskView → ℕ → List (Option Range) → List Op
display_part task round finals = display_ops (task_team task) (finals_in task round finals)

-- how it fetches the piece of the participant at position b
abbrev pub fetch_of : TaskView → ℕ → List (Option Range) → ℕ → List Op
fetch_of task round finals b = fetch_ops (task_team task) (finals_in task round finals) b

-- and those of all others
abbrev pub fetches_of : TaskView → ℕ → List (Option Range) → List Op
fetches_of task round finals = each (fetch_of task round finals) (length task.participants)
