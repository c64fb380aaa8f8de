-- Words that show what a reading is.
use Rattle.std.specs.Prelude.{ℕ, List, [], ◌∷◌, ◌++◌, Option, Some, None, codes, cond}
use Rattle.std.specs.Str.Parse.{digits_value, without_leading_plus}
use Rattle.clap.specs.Walk.{Text}
use Rattle.clap.specs.ValueTests.{is_unsigned_in}
use Rattle.icet_text.specs.Lines.{words_of}
use Rattle.icet_words.specs.CommandLine.{Command, reading}
use Rattle.icet_words.specs.declared.job.Job.{Job}
use Rattle.icet_words.specs.declared.job.Job.TheVariants.{Composite}
use Rattle.icet_multi.specs.declared.settings.Strategy.{Strategy}
use Rattle.icet_multi.specs.declared.settings.Strategy.TheVariants.{Reduce}
use Rattle.icet_multi.specs.declared.settings.Single.TheVariants.{Radixk}

-- a job with no option
abbrev pub plain : Job → Command
plain job = record { job = job; settings = record { strategy = Reduce; single = Radixk; k = 8 }; cap = 4; workers = 2; burst = 16; strands = 1; schedule = []; seed = 1 }

-- with this strategy and greatest factor
abbrev pub planned : Strategy → ℕ → Command → Command
planned strategy k command = record command { settings = record { strategy = strategy; single = Radixk; k = k } }

-- to composite with this capacity of each ring
abbrev pub capped : ℕ → Command
capped cap = record (plain Composite) { cap = cap }

-- the command that a line of words says, with a space between two words
abbrev pub typed : Text → Option Command
typed line = reading (words_of line)

-- the word `composite`, and more words
abbrev pub compositing : List Text → List Text
compositing words = codes "composite" ∷ words

-- the number that a text says, where it is one from least to most
abbrev pub number_of : ℕ → ℕ → Text → Option ℕ
number_of least most text = cond (is_unsigned_in least most text) (Some (digits_value 10 (without_leading_plus text))) None

-- `--cap=TEXT`
abbrev pub cap : Text → Text
cap text = codes "--cap=" ++ text
