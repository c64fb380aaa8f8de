-- A replay, line by line.
use Rattle.std.proofs.Common.{◌≡◌, ℕ, ◌+◌, ◌<◌, List, ◌∷◌, ◌++◌, length, drop, get_or, decimal, Result, Ok, Err, sym, ap, ◌∙◌, subst, append_assoc, add-one, drop-cons}
use Rattle.icet_model.specs.Replay.{try_word}
use Rattle.icet_model.specs.Streams.{SinkView}
use Rattle.icet_base.specs.declared.faults.WriteFault.{WriteFault}
use Rattle.icet_base.specs.declared.pen.Pen.{Pen}
use Rattle.icet_base.specs.PenText.{Puts}
use Rattle.icet_base.proofs.GrowingBytes.{puts_then, puts_failed}
use Rattle.icet_plan.specs.Keeps.{CoreView}
use Rattle.icet_jobs.specs.Replays.{tried, try_of_rank, replay_of}

-- a rank's line, and the replay behind it
next_line : (core : CoreView) (schedule : List ℕ) (i : ℕ) → i < length schedule
    → replay_of core (drop i schedule) ≡ (decimal (get_or schedule i 0) ++ try_word (try_of_rank core (get_or schedule i 0))) ++ replay_of (tried core (get_or schedule i 0)) (drop (i + 1) schedule)
next_line core schedule i l = ap (replay_of core) (drop-cons schedule i 0 l ∙ ap (λ n. get_or schedule i 0 ∷ drop n schedule) (sym (add-one i)))

module _ {K : Type 0} (told : K → SinkView) where
  -- what was put so far and the rest make the whole text
  pub record HasPutOf (old new : Pen K) (whole rest : List ℕ) : Type 0 where
    pub bytes : List ℕ
    pub puts : Puts told old new (Ok tt) bytes
    pub whole_is : bytes ++ rest ≡ whole

  -- the step of a loop that puts one line after the other
  pub puts_on : (core next : CoreView) (schedule : List ℕ) (i : ℕ) (a b c : Pen K) (whole : List ℕ) → i < length schedule → HasPutOf a b whole (replay_of core (drop i schedule))
      → Puts told b c (Ok tt) (decimal (get_or schedule i 0) ++ try_word (try_of_rank core (get_or schedule i 0))) → next ≡ tried core (get_or schedule i 0)
      → HasPutOf a c whole (replay_of next (drop (i + 1) schedule))
  puts_on core next schedule i a b c whole l before more is =
      let line : List ℕ = decimal (get_or schedule i 0) ++ try_word (try_of_rank core (get_or schedule i 0)) in
      let rest : List ℕ = replay_of next (drop (i + 1) schedule) in
      record {
        bytes = before.bytes ++ line;
        puts = puts_then told a b c (Ok tt) before.bytes line before.puts more;
        whole_is = append_assoc before.bytes line rest ∙ ap (λ (v : CoreView). before.bytes ++ (line ++ replay_of v (drop (i + 1) schedule))) is ∙ ap (λ bs. before.bytes ++ bs) (sym (next_line core schedule i l)) ∙ before.whole_is;
      }

  -- a line that failed
  pub line_failed : (core : CoreView) (schedule : List ℕ) (i : ℕ) (e : WriteFault) (a b c : Pen K) (whole : List ℕ) → i < length schedule → HasPutOf a b whole (replay_of core (drop i schedule))
      → Puts told b c (Err e) (decimal (get_or schedule i 0) ++ try_word (try_of_rank core (get_or schedule i 0)))
      → Puts told a c (Err e) whole
  line_failed core schedule i e a b c whole l before more =
      let line : List ℕ = decimal (get_or schedule i 0) ++ try_word (try_of_rank core (get_or schedule i 0)) in
      let rest : List ℕ = replay_of (tried core (get_or schedule i 0)) (drop (i + 1) schedule) in
      subst (Puts told a c (Err e)) (ap (λ bs. before.bytes ++ bs) (sym (next_line core schedule i l)) ∙ before.whole_is)
      (puts_then told a b c (Err e) before.bytes (line ++ rest) before.puts (puts_failed told b c e line rest more))

  -- the lines so far, and then the last one
  pub puts_last : (a b c : Pen K) (r : Result (Unit {0}) WriteFault) (whole rest : List ℕ) → HasPutOf a b whole rest → Puts told b c r rest → Puts told a c r whole
  puts_last a b c r whole rest before more = subst (Puts told a c r) before.whole_is (puts_then told a b c r before.bytes rest before.puts more)
