-- How a core goes on in a replay.
use Rattle.std.specs.Prelude.{ℕ, List}
use Rattle.icet_model.specs.Replay.{Try, outcome, after_try, replay_from}
use Rattle.icet_plan.specs.Keeps.{CoreView, all_of}

-- what comes of a rank's try to go on
abbrev pub try_of_rank : CoreView → ℕ → Try
try_of_rank core r = outcome (all_of core) core.cap core.done r

-- the core after it
abbrev pub tried : CoreView → ℕ → CoreView
tried core r = record { plan = core.plan; cap = core.cap; done = after_try core.done r (try_of_rank core r) }

-- the replay of a schedule from where a core stands
abbrev pub replay_of : CoreView → List ℕ → List ℕ
replay_of core schedule = replay_from (all_of core) core.cap core.done schedule
