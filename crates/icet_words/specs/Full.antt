-- A command in full: a job and each option once, with any texts as values.
use Rattle.std.specs.Prelude.{ℕ, Bool, ◌&&◌, cond, List, [], ◌∷◌, ◌++◌, Option, Some, None, codes, option_map}
use Rattle.std.specs.Option.{option_and_then}
use Rattle.std.specs.Str.Parse.{digits_value, without_leading_plus}
use Rattle.clap.specs.Walk.{Text}
use Rattle.clap.specs.ValueTests.{is_unsigned_in}
use Rattle.icet_words.specs.Schedules.{schedule_of}
use Rattle.icet_words.specs.CommandLine.{Command, settings_from, single_of, strategy_of}
use Rattle.icet_words.specs.declared.job.Job.{Job}
use Rattle.icet_words.specs.declared.job.Job.TheVariants.{Composite, Traffic, Plan, Replay, Summary, Demo, Upgrade}

-- the texts of the values
pub record Texts : Type 0 where
  pub strategy : Text
  pub single : Text
  pub k : Text
  pub cap : Text
  pub workers : Text
  pub burst : Text
  pub strands : Text
  pub schedule : Text
  pub seed : Text

abbrev pub name_of : Job → Text
name_of Composite = codes "composite"
name_of Traffic = codes "traffic"
name_of Plan = codes "plan"
name_of Replay = codes "replay"
name_of Summary = codes "summary"
name_of Demo = codes "demo"
name_of Upgrade = codes "upgrade"

abbrev pub words_in_full : Text → Texts → List Text
words_in_full job t = job
    ∷ (codes "--strategy=" ++ t.strategy)
    ∷ (codes "--single=" ++ t.single)
    ∷ (codes "--k=" ++ t.k)
    ∷ (codes "--cap=" ++ t.cap)
    ∷ (codes "--workers=" ++ t.workers)
    ∷ (codes "--burst=" ++ t.burst)
    ∷ (codes "--strands=" ++ t.strands)
    ∷ (codes "--schedule=" ++ t.schedule)
    ∷ (codes "--seed=" ++ t.seed)
    ∷ []

-- each number is one of its range; a plus may stand before its digits, and zeros
abbrev pub are_in_range : Texts → Bool
are_in_range t = is_unsigned_in 2 64 t.k && (is_unsigned_in 1 64 t.cap && (is_unsigned_in 1 16 t.workers && (is_unsigned_in 1 1024 t.burst
    && (is_unsigned_in 1 64 t.strands && is_unsigned_in 0 18446744073709551615 t.seed))))

abbrev pub value : Text → ℕ
value text = digits_value 10 (without_leading_plus text)

-- each value by itself
abbrev pub read_each : Job → Texts → Option Command
read_each job t =
    option_and_then (λ settings.
    option_map (λ schedule. record {
      job = job;
      settings = settings;
      cap = value t.cap;
      workers = value t.workers;
      burst = value t.burst;
      strands = value t.strands;
      schedule = schedule;
      seed = value t.seed;
    }) (schedule_of t.schedule)) (settings_from (strategy_of t.strategy) (single_of t.single) (value t.k))

-- what a command in full is: None where one of its values is none
abbrev pub in_full : Job → Texts → Option Command
in_full job t = cond (are_in_range t) (read_each job t) None
