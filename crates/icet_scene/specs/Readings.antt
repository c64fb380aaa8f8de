-- What reading a text answers, for what the text is.
use Rattle.std.specs.Prelude.{◌≡◌, ℕ, ◌≤◌, ◌+◌, Bool, true, false, List, [], ◌∷◌, length, drop, Result, Ok, Err}
use Rattle.icet_text.specs.Lines.{lines_of}
use Rattle.icet_scene_model.specs.Scene.{SceneView, Said}
use Rattle.icet_scene_model.specs.SceneLines.{LineReading, Skipped, Says, Faulty}
use Rattle.icet_scene_model.specs.Texts.{Text, SceneText, Refused, text_behind}
use Rattle.icet_scene_model.specs.declared.fault.SceneFault.{SceneFault}
use Rattle.icet_scene_model.specs.declared.fault.SceneFault.TheVariants.{NoMemory}
use Rattle.icet_scene.specs.declared.draft.Draft.{Draft}
use Rattle.icet_scene.specs.Drafts.{IsDraft}

-- the fault is the text's; want of memory may come with any text
abbrev pub IsFaultOfText : SceneFault → Text → Type 0
IsFaultOfText NoMemory text = Unit {0}
IsFaultOfText fault text = text ≡ Refused fault

-- the answer is the text's scene or its fault
abbrev pub IsReading : Result SceneView SceneFault → Text → Type 0
IsReading (Ok scene) text = text ≡ SceneText scene
IsReading (Err fault) text = IsFaultOfText fault text

-- the lines before the next one, where this is what the line says
abbrev pub with_line : LineReading → List Said → List Said
with_line Skipped before = before
with_line (Says said) before = said ∷ before
with_line (Faulty fault) before = before

abbrev pub is_faulty : LineReading → Bool
is_faulty Skipped = false
is_faulty (Says said) = false
is_faulty (Faulty fault) = true

-- the lines before a place of the text are read, and `number` is that of the next line
pub record HasReadTo (bytes : List ℕ) (at number : ℕ) (draft : Draft) : Type 0 where
  pub within : at ≤ length bytes
  pub few : number ≤ at + 1
  pub before : List Said
  pub draft_is : IsDraft before draft
  pub rest : text_behind [] 1 (lines_of bytes) ≡ text_behind before number (lines_of (drop at bytes))
