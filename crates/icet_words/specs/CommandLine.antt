-- The words of the command line, which stand behind the program's name.
use Rattle.std.specs.Prelude.{◌≡◌, ◌≤◌, ℕ, Bool, true, List, [], ◌∷◌, Option, Some, None, codes, cond, unwrap_or, option_map}
use Rattle.std.specs.Option.{option_and_then}
use Rattle.std.specs.Bool.{nat_eq}
use Rattle.std.specs.Cmp.Lexicographic.{pointwise}
use Rattle.std.specs.Prelude.{◌<◌, ◌^◌}
use Rattle.std.specs.Str.Parse.{IsNumeral, digits_value, without_leading_plus}
use Rattle.clap.specs.declared.builder.action.ArgAction.TheVariants.{Set}
use Rattle.clap.specs.Walk.{Row, Rule, Text, first_of}
use Rattle.clap.specs.Simple.{App, new_app, new_rule, on_top, matches_of}
use Rattle.clap.specs.Faults.{fault_of}
use Rattle.clap.specs.Kinds.{Kinds}
use Rattle.clap.specs.declared.builder.value_parser.ValueParser.TheVariants as parser
use Rattle.icet_words.specs.Schedules.{schedule_of}
use Rattle.icet_model.specs.declared.limits.TheConstants.{MIN_RADIX, MAX_RADIX, MAX_CAPACITY, MAX_WORKERS, MAX_BURST, MAX_STRANDS}
use Rattle.icet_words.specs.declared.job.Job.{Job}
use Rattle.icet_multi.specs.declared.settings.Settings.{Settings}
use Rattle.icet_words.specs.declared.job.Job.TheVariants.{Composite, Traffic, Plan, Replay, Summary, Demo, Upgrade}
use Rattle.icet_multi.specs.declared.settings.Strategy.{Strategy}
use Rattle.icet_multi.specs.declared.settings.Strategy.TheVariants.{Sequential, Direct, Reduce}
use Rattle.icet_multi.specs.declared.settings.Single.{Single}
use Rattle.icet_multi.specs.declared.settings.Single.TheVariants.{Tree, Bswap, Radixk}

-- a positional word that has to be there
abbrev pub required_word : Text → Rule
required_word name = record (new_rule name) { required = true; action = Some Set }

-- `--name` and its value
abbrev pub option : Text → Rule
option name = record (new_rule name) { long = Some name; action = Some Set }

-- the same with the value that it has where it isn't used
abbrev pub option_or : Text → Text → Rule
option_or name plain = record (option name) { defaults = plain ∷ [] }

-- the same, where the value is a number from least to most
abbrev pub number_or : Text → Text → ℕ → ℕ → Rule
number_or name plain least most = record (option_or name plain) { parser = Some (parser.Unsigned least most) }

abbrev pub arguments : List Rule
arguments = required_word (codes "job")
    ∷ option_or (codes "strategy") (codes "reduce")
    ∷ option_or (codes "single") (codes "radixk")
    ∷ number_or (codes "k") (codes "8") MIN_RADIX MAX_RADIX
    ∷ number_or (codes "cap") (codes "4") 1 MAX_CAPACITY
    ∷ number_or (codes "workers") (codes "2") 1 MAX_WORKERS
    ∷ number_or (codes "burst") (codes "16") 1 MAX_BURST
    ∷ number_or (codes "strands") (codes "1") 1 MAX_STRANDS
    ∷ option (codes "schedule")
    ∷ number_or (codes "seed") (codes "1") 0 18446744073709551615
    ∷ []

-- all words are read, the first too, and there is no help
abbrev pub icet : App
icet = on_top (λ s. record s { rules = arguments; no_binary_name = true; disable_help_flag = true }) (new_app (codes "icet"))

-- what clap finds in the words, where it takes them
abbrev pub found_unless : Kinds → List Row → Option (List Row)
found_unless [] rows = Some rows
found_unless (fault ∷ faults) rows = None

abbrev pub found_in : List Text → Option (List Row)
found_in words = found_unless (fault_of icet words) (matches_of icet words)

-- what the words ask for
pub record Command : Type 0 where
  pub job : Job
  pub settings : Settings
  pub cap : ℕ
  pub workers : ℕ
  pub burst : ℕ
  pub strands : ℕ
  pub schedule : List ℕ
  pub seed : ℕ

abbrev pub is : Text → Text → Bool
is text word = pointwise nat_eq word text

abbrev pub job_of : Text → Option Job
job_of word = cond (is (codes "composite") word) (Some Composite)
    (cond (is (codes "traffic") word) (Some Traffic)
    (cond (is (codes "plan") word) (Some Plan)
    (cond (is (codes "replay") word) (Some Replay)
    (cond (is (codes "summary") word) (Some Summary)
    (cond (is (codes "demo") word) (Some Demo)
    (cond (is (codes "upgrade") word) (Some Upgrade) None))))))

abbrev pub strategy_of : Text → Option Strategy
strategy_of word = cond (is (codes "sequential") word) (Some Sequential)
    (cond (is (codes "direct") word) (Some Direct)
    (cond (is (codes "reduce") word) (Some Reduce) None))

abbrev pub single_of : Text → Option Single
single_of word = cond (is (codes "tree") word) (Some Tree)
    (cond (is (codes "bswap") word) (Some Bswap)
    (cond (is (codes "radixk") word) (Some Radixk) None))

-- the number that was found under a name; a plus may stand before its digits
abbrev pub number_at : Text → List Row → ℕ
number_at name rows = digits_value 10 (without_leading_plus (unwrap_or (first_of name rows) []))

-- no schedule is the empty one
abbrev pub schedule_at : Option Text → Option (List ℕ)
schedule_at None = Some []
schedule_at (Some text) = schedule_of text

abbrev pub settings_from : Option Strategy → Option Single → ℕ → Option Settings
settings_from strategy single k = option_and_then (λ s. option_map (λ o. record { strategy = s; single = o; k = k }) single) strategy

abbrev pub settings_at : List Row → Option Settings
settings_at rows = settings_from (option_and_then strategy_of (first_of (codes "strategy") rows)) (option_and_then single_of (first_of (codes "single") rows)) (number_at (codes "k") rows)

abbrev pub command_from : List Row → Option Command
command_from rows =
    option_and_then (λ job.
    option_and_then (λ settings.
    option_map (λ schedule. record {
      job = job;
      settings = settings;
      cap = number_at (codes "cap") rows;
      workers = number_at (codes "workers") rows;
      burst = number_at (codes "burst") rows;
      strands = number_at (codes "strands") rows;
      schedule = schedule;
      seed = number_at (codes "seed") rows;
    }) (schedule_at (first_of (codes "schedule") rows))) (settings_at rows)) (option_and_then job_of (first_of (codes "job") rows))

-- the command that the words are; opaque, so that no proof above computes the crate's walk over the words
unfoldable pub reading : List Text → Option Command
reading words = option_and_then command_from (found_in words)

-- the ranges of a command's numbers
pub record IsInRange (c : Command) : Type 0 where
  pub k : (MIN_RADIX ≤ c.settings.k) × (c.settings.k ≤ MAX_RADIX)
  pub cap : (1 ≤ c.cap) × (c.cap ≤ MAX_CAPACITY)
  pub workers : (1 ≤ c.workers) × (c.workers ≤ MAX_WORKERS)
  pub burst : (1 ≤ c.burst) × (c.burst ≤ MAX_BURST)
  pub strands : (1 ≤ c.strands) × (c.strands ≤ MAX_STRANDS)
  pub seed : c.seed ≤ 18446744073709551615

-- digits were found under a name
pub record HasDigits (name : Text) (rows : List Row) : Type 0 where
  pub text : Text
  pub found : first_of name rows ≡ Some text
  pub numeral : IsNumeral 10 (without_leading_plus text)
  pub fits : digits_value 10 (without_leading_plus text) < 2 ^ 64

-- a number from least to most was found under a name
abbrev pub HasNumber : Text → ℕ → ℕ → List Row → Type 0
HasNumber name least most rows = HasDigits name rows × (least ≤ number_at name rows) × (number_at name rows ≤ most)

pub record HasNumbers (rows : List Row) : Type 0 where
  pub k : HasNumber (codes "k") MIN_RADIX MAX_RADIX rows
  pub cap : HasNumber (codes "cap") 1 MAX_CAPACITY rows
  pub workers : HasNumber (codes "workers") 1 MAX_WORKERS rows
  pub burst : HasNumber (codes "burst") 1 MAX_BURST rows
  pub strands : HasNumber (codes "strands") 1 MAX_STRANDS rows
  pub seed : HasNumber (codes "seed") 0 18446744073709551615 rows
