-- The texts of the jobs, and what writing one leaves.
use Rattle.std.specs.Prelude.{◌≡◌, ℕ, Bool, List, Result, Ok, Err}
use Rattle.std.specs.List.{flat_map}
use Rattle.icet_model.specs.declared.names.Mode.{Mode}
use Rattle.icet_model.specs.Pixel.{FragmentView, DenseView}
use Rattle.icet_model.specs.Streams.{SinkView, WritesAll}
use Rattle.icet_scene_model.specs.Picture.{picture_text}
use Rattle.icet_scene_model.specs.Scene.{SceneView}
use Rattle.icet_base.specs.declared.faults.WriteFault.{WriteFault}
use Rattle.icet_summary.specs.Summaries.{finish, summary_text}
use Rattle.icet_jobs.specs.declared.replay.JobFault.{JobFault}
use Rattle.icet_jobs.specs.declared.replay.JobFault.TheVariants.{Write, NoMemory}

-- the picture texts, one behind the other
abbrev pub pictures_text : Bool → Mode → FragmentView → List DenseView → List ℕ
pictures_text wide mode background pictures = flat_map (λ picture. picture_text wide mode background picture.w picture.h picture.pixels) pictures

-- the texts of a scene's pictures
abbrev pub texts_of : SceneView → List DenseView → List ℕ
texts_of scene pictures = pictures_text scene.wide scene.mode scene.background pictures

-- the summary of a scene's pictures, whose images have this weight
abbrev pub summary_of : SceneView → List DenseView → ℕ → List ℕ
summary_of scene pictures weight = summary_text (finish scene.wide scene.mode scene.background) pictures weight

-- writing a text that takes memory first: where it is wanting, the sink is as it was
abbrev pub WritesText : {K : Type 0} → (K → SinkView) → K → K → Result (Unit {0}) JobFault → List ℕ → Type 0
WritesText told old new (Ok done) text = WritesAll {E = WriteFault} (told old) (told new) (Ok tt) text
WritesText told old new (Err Write) text = WritesAll {E = WriteFault} (told old) (told new) (Err (record {})) text
WritesText told old new (Err NoMemory) text = new ≡ old
