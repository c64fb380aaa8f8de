-- A command in full: each option once, whatever the texts of the values are. The parsers are parameters here, so that
-- whether a text passes stays one term that cannot compute.
use Rattle.std.proofs.Common.{◌≡◌, ◌∙◌, ap, ℕ, Bool, true, false, cond, List, [], ◌∷◌, Some, None, codes, refl}
use Rattle.std.specs.Prelude.{◌&&◌, if◌then◌else◌}
use Rattle.std.specs.Option.{option_and_then}
use Rattle.clap.specs.Walk.{Row, Rule, Text}
use Rattle.clap.specs.Simple.{App, matches_of, new_app, on_top}
use Rattle.clap.specs.Values.{refused_kind}
use Rattle.clap.specs.Kinds.{Kinds, or_else}
use Rattle.clap.specs.Faults.{fault_of}
use Rattle.clap.specs.ValueTests.{accepts}
use Rattle.clap.specs.declared.error.kind.ErrorKind.{ErrorKind}
use Rattle.clap.specs.declared.builder.value_parser.ValueParser.{ValueParser}
use Rattle.clap.specs.declared.builder.value_parser.ValueParser.TheVariants as parser
use Rattle.clap.proofs.OnLiterals.{clap_on_literals}
use Rattle.icet_words.specs.CommandLine.{command_from, found_unless, icet, option, option_or, reading, required_word}
use Rattle.icet_words.specs.Full.{Texts, are_in_range, in_full, name_of, read_each, words_in_full}
use Rattle.icet_words.proofs.Readings.{reading_is}
use Rattle.icet_words.specs.declared.job.Job.{Job}
use Rattle.icet_words.specs.declared.job.Job.TheVariants.{Composite, Traffic, Plan, Replay, Summary, Demo, Upgrade}

abbrev by : Text → Text → ValueParser → Rule
by name plain q = record (option_or name plain) { parser = Some q }

abbrev app : (q1 q2 q3 q4 q5 q6 : ValueParser) → App
app q1 q2 q3 q4 q5 q6 = on_top (λ s. record s {
  rules = required_word (codes "job")
      ∷ option_or (codes "strategy") (codes "reduce")
      ∷ option_or (codes "single") (codes "radixk")
      ∷ by (codes "k") (codes "8") q1
      ∷ by (codes "cap") (codes "4") q2
      ∷ by (codes "workers") (codes "2") q3
      ∷ by (codes "burst") (codes "16") q4
      ∷ by (codes "strands") (codes "1") q5
      ∷ option (codes "schedule")
      ∷ by (codes "seed") (codes "1") q6
      ∷ [];
  no_binary_name = true;
  disable_help_flag = true;
}) (new_app (codes "icet"))

abbrev value_fault : Bool → ErrorKind → Kinds
value_fault b k = if b then [] else k ∷ []

-- the crate's nest of faults where only the values of options may fail
abbrev nest : List (Bool × ErrorKind) → Kinds
nest [] = []
nest (p ∷ rest) = or_else (or_else (or_else (value_fault p.0 p.1) []) []) (nest rest)

abbrev all_pass : List (Bool × ErrorKind) → Bool
all_pass [] = true
all_pass (p ∷ []) = p.0
all_pass (p ∷ q ∷ rest) = p.0 && all_pass (q ∷ rest)

first_fails : (k : ErrorKind) (rest : List (Bool × ErrorKind)) (rows : List Row) → found_unless (or_else (nest ((false, k) ∷ rest)) []) rows ≡ None
first_fails k rest rows = refl

nest_passes : (ps : List (Bool × ErrorKind)) (rows : List Row) → found_unless (or_else (nest ps) []) rows ≡ cond (all_pass ps) (Some rows) None
nest_passes [] rows = refl
nest_passes ((true, k) ∷ []) rows = refl
nest_passes ((false, k) ∷ []) rows = refl
nest_passes ((true, k) ∷ q ∷ rest) rows = nest_passes (q ∷ rest) rows
nest_passes ((false, k) ∷ q ∷ rest) rows = refl

abbrev tests : (q1 q2 q3 q4 q5 q6 : ValueParser) → Texts → List (Bool × ErrorKind)
tests q1 q2 q3 q4 q5 q6 t =
    (accepts false q1 t.k, refused_kind q1)
    ∷ (accepts false q2 t.cap, refused_kind q2)
    ∷ (accepts false q3 t.workers, refused_kind q3)
    ∷ (accepts false q4 t.burst, refused_kind q4)
    ∷ (accepts false q5 t.strands, refused_kind q5)
    ∷ (accepts false q6 t.seed, refused_kind q6)
    ∷ []

faults : (q1 q2 q3 q4 q5 q6 : ValueParser) (job : Job) (t : Texts) → fault_of (app q1 q2 q3 q4 q5 q6) (words_in_full (name_of job) t) ≡ or_else (nest (tests q1 q2 q3 q4 q5 q6 t)) []
unfolding clap_on_literals
faults q1 q2 q3 q4 q5 q6 Composite t = refl
faults q1 q2 q3 q4 q5 q6 Traffic t = refl
faults q1 q2 q3 q4 q5 q6 Plan t = refl
faults q1 q2 q3 q4 q5 q6 Replay t = refl
faults q1 q2 q3 q4 q5 q6 Summary t = refl
faults q1 q2 q3 q4 q5 q6 Demo t = refl
faults q1 q2 q3 q4 q5 q6 Upgrade t = refl

values : (job : Job) (t : Texts) → command_from (matches_of icet (words_in_full (name_of job) t)) ≡ read_each job t
unfolding clap_on_literals
values Composite t = refl
values Traffic t = refl
values Plan t = refl
values Replay t = refl
values Summary t = refl
values Demo t = refl
values Upgrade t = refl

chosen : (b : Bool) (job : Job) (t : Texts) (rows : List Row) → command_from rows ≡ read_each job t → option_and_then command_from (cond b (Some rows) None) ≡ cond b (read_each job t) None
chosen true job t rows e = e
chosen false job t rows e = refl

pub reading_in_full : (job : Job) (t : Texts) → reading (words_in_full (name_of job) t) ≡ in_full job t
reading_in_full job t =
    let words = words_in_full (name_of job) t in
    let q : ℕ → ℕ → ValueParser = parser.Unsigned in
    let ps = tests (q 2 64) (q 1 64) (q 1 16) (q 1 1024) (q 1 64) (q 0 18446744073709551615) t in
    reading_is words
    ∙ ap (λ f. option_and_then command_from (found_unless f (matches_of icet words))) (faults (q 2 64) (q 1 64) (q 1 16) (q 1 1024) (q 1 64) (q 0 18446744073709551615) job t)
    ∙ ap (option_and_then command_from) (nest_passes ps (matches_of icet words))
    ∙ chosen (are_in_range t) job t (matches_of icet words) (values job t)
