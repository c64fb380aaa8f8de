-- The value of `--cap`, whatever its text is. The parser is a parameter here, so that whether the text passes stays one
-- term that cannot compute.
use Rattle.std.proofs.Common.{◌≡◌, ◌∙◌, ap, Bool, true, false, cond, List, [], ◌∷◌, Option, Some, None, codes, refl, ℕ}
use Rattle.std.specs.Prelude.{option_map}
use Rattle.std.specs.Option.{option_and_then}
use Rattle.std.specs.Str.Parse.{digits_value, without_leading_plus}
use Rattle.clap.specs.Walk.{Row, Rule, Text}
use Rattle.clap.specs.Simple.{App, matches_of, new_app, on_top}
use Rattle.clap.specs.Faults.{fault_of}
use Rattle.std.specs.Prelude.{if◌then◌else◌}
use Rattle.clap.specs.Values.{refused_kind}
use Rattle.clap.specs.Kinds.{Kinds, or_else}
use Rattle.clap.specs.declared.error.kind.ErrorKind.{ErrorKind}
use Rattle.clap.specs.declared.error.kind.ErrorKind.TheVariants as kind
use Rattle.clap.specs.ValueTests.{accepts, is_unsigned_in}
use Rattle.clap.specs.declared.builder.value_parser.ValueParser.{ValueParser}
use Rattle.clap.specs.declared.builder.value_parser.ValueParser.TheVariants as parser
use Rattle.clap.proofs.OnLiterals.{clap_on_literals}
use Rattle.icet_words.specs.CommandLine.{Command, command_from, found_unless, icet, number_or, option, option_or, reading, required_word}
use Rattle.icet_words.proofs.Readings.{reading_is}
use Rattle.icet_words.specs.Examples.{cap, number_of, plain}
use Rattle.icet_words.specs.declared.job.Job.TheVariants.{Composite}

abbrev with_cap : ValueParser → List Rule
with_cap q = required_word (codes "job")
    ∷ option_or (codes "strategy") (codes "reduce")
    ∷ option_or (codes "single") (codes "radixk")
    ∷ number_or (codes "k") (codes "8") 2 64
    ∷ record (option_or (codes "cap") (codes "4")) { parser = Some q }
    ∷ number_or (codes "workers") (codes "2") 1 16
    ∷ number_or (codes "burst") (codes "16") 1 1024
    ∷ number_or (codes "strands") (codes "1") 1 64
    ∷ option (codes "schedule")
    ∷ number_or (codes "seed") (codes "1") 0 18446744073709551615
    ∷ []

abbrev app : ValueParser → App
app q = on_top (λ s. record s { rules = with_cap q; no_binary_name = true; disable_help_flag = true }) (new_app (codes "icet"))

abbrev behind : Text → List Text
behind text = codes "composite" ∷ cap text ∷ []

abbrev before : Text → List Text
before text = cap text ∷ codes "composite" ∷ []

abbrev both : Text → Text → List Text
both text other = codes "composite" ∷ cap text ∷ cap other ∷ []

-- what is left of the crate's nest of faults where only the value of one option may fail
abbrev nest : Kinds → Kinds
nest fault = or_else (or_else (or_else (or_else fault []) []) []) []

abbrev nest_both : Kinds → Kinds
nest_both fault = or_else (or_else (or_else (or_else fault []) []) (kind.ArgumentConflict ∷ [])) []

abbrev value_fault : Bool → ErrorKind → Kinds
value_fault b k = if b then [] else k ∷ []

fault_behind : (q : ValueParser) (text : Text) → fault_of (app q) (behind text) ≡ nest (value_fault (accepts false q text) (refused_kind q))
unfolding clap_on_literals
fault_behind q text = refl

fault_before : (q : ValueParser) (text : Text) → fault_of (app q) (before text) ≡ nest (value_fault (accepts false q text) (refused_kind q))
unfolding clap_on_literals
fault_before q text = refl

fault_both : (q : ValueParser) (text other : Text) → fault_of (app q) (both text other) ≡ nest_both (value_fault (accepts false q text) (refused_kind q))
unfolding clap_on_literals
fault_both q text other = refl

one_passes : (b : Bool) (k : ErrorKind) (rows : List Row) → found_unless (nest (value_fault b k)) rows ≡ cond b (Some rows) None
one_passes true k rows = refl
one_passes false k rows = refl

none_passes : (b : Bool) (k : ErrorKind) (rows : List Row) → found_unless (nest_both (value_fault b k)) rows ≡ None
none_passes true k rows = refl
none_passes false k rows = refl

found_behind : (q : ValueParser) (text : Text) (rows : List Row) → found_unless (fault_of (app q) (behind text)) rows ≡ cond (accepts false q text) (Some rows) None
found_behind q text rows = ap (λ f. found_unless f rows) (fault_behind q text) ∙ one_passes (accepts false q text) (refused_kind q) rows

found_before : (q : ValueParser) (text : Text) (rows : List Row) → found_unless (fault_of (app q) (before text)) rows ≡ cond (accepts false q text) (Some rows) None
found_before q text rows = ap (λ f. found_unless f rows) (fault_before q text) ∙ one_passes (accepts false q text) (refused_kind q) rows

found_both : (q : ValueParser) (text other : Text) (rows : List Row) → found_unless (fault_of (app q) (both text other)) rows ≡ None
found_both q text other rows = ap (λ f. found_unless f rows) (fault_both q text other) ∙ none_passes (accepts false q text) (refused_kind q) rows

abbrev number : Text → ℕ
number text = digits_value 10 (without_leading_plus text)

abbrev answer : Option ℕ → Option Command
answer = option_map (λ n. record (plain Composite) { cap = n })

read_behind : (text : Text) (rest : List Row) → command_from (matches_of icet (behind text)) ≡ Some (record (plain Composite) { cap = number text })
unfolding clap_on_literals
read_behind text rest = refl

read_before : (text : Text) (rest : List Row) → command_from (matches_of icet (before text)) ≡ Some (record (plain Composite) { cap = number text })
unfolding clap_on_literals
read_before text rest = refl

joined : (b : Bool) (rows : List Row) (n : ℕ) → command_from rows ≡ Some (record (plain Composite) { cap = n }) → option_and_then command_from (cond b (Some rows) None) ≡ answer (cond b (Some n) None)
joined true rows n e = e
joined false rows n e = refl

pub reading_behind : (text : Text) → reading (behind text) ≡ answer (number_of 1 64 text)
reading_behind text =
    reading_is (behind text) ∙ ap (option_and_then command_from) (found_behind (parser.Unsigned 1 64) text (matches_of icet (behind text)))
    ∙ joined (is_unsigned_in 1 64 text) (matches_of icet (behind text)) (number text) (read_behind text [])

pub reading_before : (text : Text) → reading (before text) ≡ answer (number_of 1 64 text)
reading_before text =
    reading_is (before text) ∙ ap (option_and_then command_from) (found_before (parser.Unsigned 1 64) text (matches_of icet (before text)))
    ∙ joined (is_unsigned_in 1 64 text) (matches_of icet (before text)) (number text) (read_before text [])

pub reading_both : (text other : Text) → reading (both text other) ≡ None
reading_both text other = reading_is (both text other) ∙ ap (option_and_then command_from) (found_both (parser.Unsigned 1 64) text other (matches_of icet (both text other)))
