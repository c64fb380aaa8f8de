-- What a job leaves behind the reading of the source.
use Rattle.std.specs.Prelude.{◌≡◌, ◌≤◌, ◌⊎◌, List, ◌++◌, Result, Ok, Err}
use Rattle.icet_model.specs.Pixel.{Pixel}
use Rattle.icet_model.specs.Streams.{SinkView, WritesAll}
use Rattle.icet_model.specs.Traffic.{PairTraffic}
use Rattle.icet_scene_model.specs.Scene.{SceneView}
use Rattle.icet_scene_model.specs.Texts.{Text, SceneText, Refused}
use Rattle.icet_words.specs.CommandLine.{Command}
use Rattle.icet_words.specs.declared.job.Job.{Job}
use Rattle.icet_words.specs.declared.job.Job.TheVariants.{Summary, Demo}
use Rattle.icet_jobs.specs.declared.compositing.Way.{Way}
use Rattle.icet_base.specs.declared.faults.WriteFault.{WriteFault}
use Rattle.icet_cli.specs.Outcome.{job_text, job_traffic}
use Rattle.icet_cli.specs.declared.run_fault.RunFault.{RunFault}
use Rattle.icet_cli.specs.declared.run_fault.RunFault.TheVariants.{Words, Read, Scene, Write, NoMemory}

-- what sink and wires tell
pub record Shown : Type 0 where
  pub sink : SinkView
  pub log : List (PairTraffic (List Pixel))

abbrev pub shown : SinkView → List (PairTraffic (List Pixel)) → Shown
shown sink log = record { sink = sink; log = log }

-- the text is a scene; the job's text was written, or a front of it, and the log grew by its traffic
pub record WritesJob (command : Command) (text : Text) (old new : Shown) (result : Result (Unit {0}) WriteFault) : Type 0 where
  pub scene : SceneView
  pub valid : text ≡ SceneText scene
  pub wrote : WritesAll old.sink new.sink result (job_text command scene)
  pub log : new.log ≡ old.log ++ job_traffic command scene

-- a job whose source's bytes are this text
abbrev pub EndsWith : Command → Text → Shown → Shown → Result (Unit {0}) RunFault → Type 0
EndsWith command text old new (Ok done) = WritesJob command text old new (Ok tt)
EndsWith command text old new (Err Write) = WritesJob command text old new (Err (record {}))
EndsWith command text old new (Err (Scene fault)) = (text ≡ Refused fault) × (new ≡ old)
EndsWith command text old new (Err NoMemory) = new ≡ old
EndsWith command text old new (Err Words) = ⊥
EndsWith command text old new (Err Read) = ⊥

-- the job writes a summary
abbrev pub SumsUp : Job → Type 0
SumsUp job = (job ≡ Summary) ⊎ (job ≡ Demo)

-- the way is the command's, and within the ranges of its options
pub record IsWayOf (command : Command) (way : Way) : Type 0 where
  pub settings : way.settings ≡ command.settings
  pub split : 2 ≤ way.settings.k
  pub cap : 1 ≤ way.cap
  pub workers : 1 ≤ way.workers
  pub burst : 1 ≤ way.burst
  pub strands_are : way.strands ≡ command.strands
  pub strands : 1 ≤ way.strands

-- a job over a scene that has been read: it leaves the wires' log, whatever that is
abbrev pub SceneJobEnds : Command → SceneView → SinkView → SinkView → Result (Unit {0}) RunFault → Type 0
SceneJobEnds command scene old new result = (log : List (PairTraffic (List Pixel))) → EndsWith command (SceneText scene) (shown old log) (shown new log) result
