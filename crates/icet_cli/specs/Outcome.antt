-- What a run of the program leaves, by its status: the promise of the top call.
use Rattle.std.specs.Prelude.{◌≡◌, ◌≢◌, ℕ, ◌⊎◌, List, [], ◌++◌, map, Some, None, Ok as OkResult, Err}
use Rattle.std.specs.Borrow.{Bor}
use Rattle.std.specs.Io.KnownBytes.{IsAtEnd}
use Rattle.icet_model.specs.Core.{start}
use Rattle.icet_model.specs.Faults.{Rose}
use Rattle.icet_model.specs.Pixel.{Pixel}
use Rattle.icet_model.specs.Replay.{replay_from}
use Rattle.icet_model.specs.Streams.{SourceView, SinkView, WritesAll}
use Rattle.icet_model.specs.Traffic.{PairTraffic}
use Rattle.icet_scene_model.specs.FaultLines.{words_line, read_line, write_line, memory_line, scene_line}
use Rattle.icet_scene_model.specs.Jobs.{composite_text}
use Rattle.icet_scene_model.specs.Printed.{upgraded}
use Rattle.icet_scene_model.specs.Ready.{ready_scene}
use Rattle.icet_scene_model.specs.Scene.{SceneView}
use Rattle.icet_scene_model.specs.Texts.{SceneText, Refused, text_is}
use Rattle.icet_scene_model.specs.declared.fault.SceneFault.{SceneFault}
use Rattle.icet_words.specs.CommandLine.{Command, reading}
use Rattle.icet_words.specs.declared.job.Job.{Job}
use Rattle.icet_words.specs.declared.job.Job.TheVariants.{Composite, Traffic, Plan, Replay, Summary, Demo, Upgrade}
use Rattle.icet_base.specs.declared.faults.WriteFault.{WriteFault}
use Rattle.icet_plan_text.specs.PlanTexts.{plan_text, traffic_text}
use Rattle.icet_demo.specs.Demonstration.{demo_scene}
use Rattle.icet_jobs.specs.Composites.{brackets_of, composite_traffic, exchanges_of, plain_pictures}
use Rattle.icet_jobs.specs.Texts.{summary_of}
use Rattle.icet_jobs.specs.Weights.{scene_weight}
use Rattle.icet_cli.specs.Notes.{HasNoted}
use Rattle.icet_cli.specs.SceneBytes.{ReadsAll, ReadsFew}
use Rattle.icet_cli.specs.declared.status.Status.{Status}
use Rattle.icet_cli.specs.declared.status.Status.TheVariants.{Ok, SceneRefused, WordsRefused, ReadFault, WriteFault as SinkFailed, NoMemory}

-- what the outside tells at a moment
pub record Outside : Type 0 where
  pub source : SourceView
  pub sink : SinkView
  pub notes : SinkView
  pub log : List (PairTraffic (List Pixel))

abbrev pub outside : SourceView → SinkView → SinkView → List (PairTraffic (List Pixel)) → Outside
outside source sink notes log = record { source = source; sink = sink; notes = notes; log = log }

-- the texts that are borrowed
abbrev pub texts : List (Bor (List ℕ)) → List (List ℕ)
texts words = map (λ word. word.now) words

-- the summary of what the ranks of a scene draw
abbrev pub summary_for : Command → SceneView → List ℕ
summary_for command scene = summary_of scene (plain_pictures command.settings scene) (scene_weight command.strands scene)

abbrev pub text_for : Job → Command → SceneView → List ℕ
text_for Composite command scene = composite_text scene (brackets_of command.settings scene)
text_for Traffic command scene = traffic_text (exchanges_of command.settings scene)
text_for Plan command scene = plan_text (brackets_of command.settings scene) (exchanges_of command.settings scene)
text_for Replay command scene = replay_from (exchanges_of command.settings scene) command.cap (start (exchanges_of command.settings scene)) command.schedule
text_for Summary command scene = summary_for command scene
text_for Demo command scene = summary_for command scene
text_for Upgrade command scene = upgraded (ready_scene scene)

-- what a command writes for a scene: the pictures of the plain composite, the plan's messages, the plan, its replay, the
-- summary of the pictures, or the scene's text with its shapes ready drawn
abbrev pub job_text : Command → SceneView → List ℕ
job_text command scene = text_for command.job command scene

abbrev pub traffic_for : Job → Command → SceneView → List (PairTraffic (List Pixel))
traffic_for Composite command scene = composite_traffic command.settings command.strands scene
traffic_for Traffic command scene = []
traffic_for Plan command scene = []
traffic_for Replay command scene = []
traffic_for Summary command scene = composite_traffic command.settings command.strands scene
traffic_for Demo command scene = composite_traffic command.settings command.strands scene
traffic_for Upgrade command scene = []

-- what the wires carry for a command: the plan's messages with their pixels where pictures are made, and else nothing
abbrev pub job_traffic : Command → SceneView → List (PairTraffic (List Pixel))
job_traffic command scene = traffic_for command.job command scene

-- the words are a command that reads its scene; only the demonstration makes it
pub record IsReader (words : List (List ℕ)) : Type 0 where
  pub command : Command
  pub is : reading words ≡ Some command
  pub reads : command.job ≢ Demo

-- nothing was written to the sink or carried, and the notes got the fault's line
pub record Refuses (old new : Outside) (line : List ℕ) : Type 0 where
  pub sink : new.sink ≡ old.sink
  pub log : new.log ≡ old.log
  pub noted : HasNoted old.notes new.notes line

-- the source was read to its end, and its bytes are a scene
pub record ReadsScene (old new : Outside) (scene : SceneView) : Type 0 where
  pub bytes : List ℕ
  pub all : ReadsAll old.source new.source bytes
  pub at_end : IsAtEnd new.source.left
  pub valid : text_is bytes ≡ SceneText scene

-- where a command's scene comes from: the demonstration's from its seed, and the source is left alone
pub record HasScene (command : Command) (old new : Outside) (scene : SceneView) : Type 0 where
  pub read : command.job ≢ Demo → ReadsScene old new scene
  pub made : command.job ≡ Demo → (scene ≡ demo_scene command.seed) × (new.source ≡ old.source)

-- the words are a command and there is a scene for it; the sink grew by exactly the job's text, and
-- the wires' log by exactly the job's traffic
pub record Succeeds (words : List (List ℕ)) (old new : Outside) : Type 0 where
  pub command : Command
  pub read_words : reading words ≡ Some command
  pub scene : SceneView
  pub has : HasScene command old new scene
  pub wrote : WritesAll {E = WriteFault} old.sink new.sink (OkResult tt) (job_text command scene)
  pub log : new.log ≡ old.log ++ job_traffic command scene
  pub noted : new.notes ≡ old.notes

-- the sink failed, and grew by a front of the job's text; the log is as where all went well
pub record FailsToWrite (words : List (List ℕ)) (old new : Outside) : Type 0 where
  pub command : Command
  pub read_words : reading words ≡ Some command
  pub scene : SceneView
  pub has : HasScene command old new scene
  pub wrote : WritesAll {E = WriteFault} old.sink new.sink (Err (record {})) (job_text command scene)
  pub log : new.log ≡ old.log ++ job_traffic command scene
  pub noted : HasNoted old.notes new.notes write_line

-- the bytes read are refused with a fault; they are all that was left, or more than a scene may have
pub record RefusesScene (old new : Outside) : Type 0 where
  pub bytes : List ℕ
  pub all : ReadsAll old.source new.source bytes
  pub fault : SceneFault
  pub faulty : text_is bytes ≡ Refused fault
  pub refuses : Refuses old new (scene_line fault)

-- what stands after a run on these words that ended with this status
abbrev pub EndsAs : List (List ℕ) → Outside → Outside → Status → Type 0
EndsAs words old new Ok = Succeeds words old new
EndsAs words old new SceneRefused = IsReader words × RefusesScene old new
EndsAs words old new WordsRefused = (reading words ≡ None) × (new.source ≡ old.source) × Refuses old new words_line
EndsAs words old new ReadFault = IsReader words × Rose old.source.faults new.source.faults × Refuses old new read_line
EndsAs words old new SinkFailed = FailsToWrite words old new
EndsAs words old new NoMemory = (new.source.faults ≡ old.source.faults) × Refuses old new memory_line

-- the bytes left of a source are a scene
pub record IsLeft (source : SourceView) (scene : SceneView) : Type 0 where
  pub bytes : List ℕ
  pub left : source.left ≡ Some bytes
  pub valid : text_is bytes ≡ SceneText scene

-- there is a scene for the command
pub record StandsReady (command : Command) (old : Outside) (scene : SceneView) : Type 0 where
  pub read : command.job ≢ Demo → IsLeft old.source scene
  pub made : command.job ≡ Demo → scene ≡ demo_scene command.seed

-- where the words are a command, there is a scene for it, and neither source nor sink failed, all goes
-- well or memory is wanting
abbrev pub IsComplete : List (List ℕ) → Outside → Outside → Status → Type 0
IsComplete words old new status =
    (command : Command) (scene : SceneView) → reading words ≡ Some command → StandsReady command old scene
    → (Rose old.source.faults new.source.faults → ⊥) → (Rose old.sink.faults new.sink.faults → ⊥) → (status ≡ Ok) ⊎ (status ≡ NoMemory)

-- the promise of a run on these words
pub record RunsTo (words : List (List ℕ)) (old new : Outside) (status : Status) : Type 0 where
  pub ends : EndsAs words old new status
  pub complete : IsComplete words old new status
  pub read : ReadsFew old.source new.source
  pub unread : (command : Command) → reading words ≡ Some command → command.job ≡ Demo → new.source ≡ old.source

-- what a run tells before a fault is noted
pub record Work : Type 0 where
  pub source : SourceView
  pub sink : SinkView
  pub log : List (PairTraffic (List Pixel))

abbrev pub work : SourceView → SinkView → List (PairTraffic (List Pixel)) → Work
work source sink log = record { source = source; sink = sink; log = log }

abbrev pub with_notes : Work → SinkView → Outside
with_notes w notes = record { source = w.source; sink = w.sink; notes = notes; log = w.log }
