-- Where all is valid and nothing failed, all goes well or memory is wanting.
use Rattle.std.proofs.Common.{◌≡◌, ℕ, ◌≤◌, Bool, true, false, cond, List, [], ◌∷◌, length, Option, Some, None, refl, sym, ap, ◌∙◌, arith, inl, inr, length-append}
use Rattle.std.specs.Prelude.{nat_lt}
use Rattle.std.specs.Io.KnownBytes.{Consumes, IsAtEnd}
use Rattle.std.proofs.lemmas.Bool.Decides.{nat_tests}
use Rattle.std.proofs.lemmas.List.{append-nil}
use Rattle.icet_model.specs.declared.limits.TheConstants.{MAX_SCENE_BYTES}
use Rattle.icet_text.specs.Lines.{lines_of}
use Rattle.icet_scene_model.specs.Scene.{SceneView}
use Rattle.icet_scene_model.specs.Texts.{Text, SceneText, Refused, text_is, text_behind}
use Rattle.icet_scene_model.specs.declared.fault.SceneFault.TheVariants.{TooLong}
use Rattle.icet_words.specs.CommandLine.{Command}
use Rattle.icet_cli.specs.Outcome.{Outside, EndsAs, IsComplete}
use Rattle.icet_cli.specs.declared.status.Status.{Status}
use Rattle.icet_cli.specs.declared.status.Status.TheVariants.{Ok, SceneRefused, WordsRefused, ReadFault, WriteFault, NoMemory}

-- a scene's text isn't too long
pub short : (bytes : List ℕ) (scene : SceneView) → text_is bytes ≡ SceneText scene → length bytes ≤ MAX_SCENE_BYTES
short bytes scene e = go (nat_lt MAX_SCENE_BYTES (length bytes)) refl e
  where
    go : (b : Bool) → nat_lt MAX_SCENE_BYTES (length bytes) ≡ b → cond b (Refused TooLong) (text_behind [] 1 (lines_of bytes)) ≡ SceneText scene → length bytes ≤ MAX_SCENE_BYTES
    go true t f = absurd cc
    go false t f = grind (arith, nat_tests, t)

-- what was read of a source that is at its end is all that was left
all_read : (left new : Option (List ℕ)) (whole bytes : List ℕ) → left ≡ Some whole → Consumes left new bytes → (length bytes ≤ MAX_SCENE_BYTES → IsAtEnd new) → length whole ≤ MAX_SCENE_BYTES → bytes ≡ whole
all_read None new whole bytes e c end l = absurd cc
all_read (Some xs) None whole bytes e c end l = absurd c
all_read (Some xs) (Some []) whole bytes e c end l = let same : xs ≡ whole = cc in sym (append-nil bytes) ∙ sym c ∙ same
all_read (Some xs) (Some (y ∷ ys)) whole bytes e c end l =
    let same : xs ≡ whole = cc in
    let count = ap length (sym same ∙ c) ∙ length-append bytes (y ∷ ys) in
    absurd (let e : y ∷ ys ≡ [] = end (omega (arith, count, l)) in cc)

pub complete : (words : List (List ℕ)) (old new : Outside) (status : Status) → EndsAs words old new status → IsComplete words old new status
complete words old new Ok ends command scene read ready sure_source sure_sink = inl refl
complete words old new NoMemory ends command scene read ready sure_source sure_sink = inr refl
complete words old new SceneRefused ends command scene read ready sure_source sure_sink =
    let reader = ends.0 in
    let refuses = ends.1 in
    let same_command : reader.command ≡ command = let e : Some reader.command ≡ Some command = sym reader.is ∙ read in cc in
    let left = ready.read (λ demo. reader.reads (ap (λ (c : Command). c.job) same_command ∙ demo)) in
    let same = ap text_is (all_read old.source.left new.source.left left.bytes refuses.bytes left.left refuses.all.read.consumed refuses.all.whole (short left.bytes scene left.valid)) in
    absurd (let e : Refused refuses.fault ≡ SceneText scene = sym refuses.faulty ∙ (same ∙ left.valid) in cc)
complete words old new WordsRefused ends command scene read ready sure_source sure_sink = absurd (let e : None ≡ Some command = sym ends.0 ∙ read in cc)
complete words old new ReadFault ends command scene read ready sure_source sure_sink = absurd (sure_source ends.1)
complete words old new WriteFault ends command scene read ready sure_source sure_sink = absurd (sure_sink ends.wrote.cause.failed)
