-- What the parts of a run leave is what a run promises.
use Rattle.std.proofs.Common.{◌≡◌, ◌≢◌, ℕ, List, Some, Result, Ok, Err, sym, ap, ◌∙◌, subst}
use Rattle.icet_scene_model.specs.FaultLines.{scene_line}
use Rattle.icet_scene_model.specs.Scene.{SceneView}
use Rattle.icet_scene_model.specs.Texts.{SceneText, Refused, text_is}
use Rattle.icet_scene_model.specs.declared.fault.SceneFault.{SceneFault}
use Rattle.icet_words.specs.CommandLine.{Command, reading}
use Rattle.icet_words.specs.declared.job.Job.TheVariants.{Demo}
use Rattle.icet_demo.specs.Demonstration.{demo_scene}
use Rattle.icet_model.specs.Streams.{SourceView}
use Rattle.icet_cli.specs.FaultNotes.{status_of, status_for, line_of, IsNoted}
use Rattle.icet_cli.specs.JobEndings.{Shown, shown, EndsWith}
use Rattle.icet_cli.specs.Notes.{HasNoted}
use Rattle.icet_cli.specs.Outcome.{Outside, IsReader, HasScene, RefusesScene, EndsAs, RunsTo}
use Rattle.icet_cli.specs.SceneBytes.{ReadsFew, ReadsAll, FailsToRead}
use Rattle.icet_cli.specs.declared.run_fault.RunFault.{RunFault}
use Rattle.icet_cli.specs.declared.run_fault.RunFault.TheVariants.{Words, Read, Scene, Write, NoMemory}
use Rattle.icet_cli.specs.declared.status.Status.{Status}
use Rattle.icet_cli.proofs.Completeness.{short, complete}
use Rattle.icet_cli.proofs.PiecesRead.{few_read, nothing_read}

-- two commands that the same words are
one_command : (words : List (List ℕ)) (c d : Command) → reading words ≡ Some c → reading words ≡ Some d → c ≡ d
one_command words c d e f = let g : Some c ≡ Some d = sym e ∙ f in cc

-- the words are this command, which reads its scene
module _ (words : List (List ℕ)) (command : Command) (is : reading words ≡ Some command) (reads : command.job ≢ Demo) where
  unread : (old new : Outside) (other : Command) → reading words ≡ Some other → other.job ≡ Demo → new.source ≡ old.source
  unread old new other e demo = absurd (reads (ap (λ (c : Command). c.job) (one_command words command other is e) ∙ demo))

  promised : (old new : Outside) (status : Status) → ReadsFew old.source new.source → EndsAs words old new status → RunsTo words old new status
  promised old new status few ends = record { ends = ends; complete = complete words old new status ends; read = few; unread = unread old new }

  reader : IsReader words
  reader = record { command = command; is = is; reads = reads }

  -- a source that wasn't read to its end
  pub reading_failed : (old new : Outside) (fault : RunFault) → FailsToRead fault old.source new.source → new.sink ≡ old.sink → new.log ≡ old.log → HasNoted old.notes new.notes (line_of fault) → RunsTo words old new (status_of fault)
  reading_failed old new Read failed sink log noted = promised old new _ failed.0 (reader, failed.1, record { sink = sink; log = log; noted = noted })
  reading_failed old new NoMemory failed sink log noted = promised old new _ failed.0 (failed.1, record { sink = sink; log = log; noted = noted })
  reading_failed old new Words failed sink log noted = absurd failed
  reading_failed old new (Scene fault) failed sink log noted = absurd failed
  reading_failed old new Write failed sink log noted = absurd failed

  reads_scene : (old new : Outside) (bytes : List ℕ) (scene : SceneView) → ReadsAll old.source new.source bytes → text_is bytes ≡ SceneText scene → HasScene command old new scene
  reads_scene old new bytes scene all valid = record {
    read = λ _. record { bytes = bytes; all = all; at_end = all.whole (short bytes scene valid); valid = valid };
    made = λ demo. absurd (reads demo);
  }

  -- a scene that was refused with this fault
  refused : (bytes : List ℕ) (old new : Outside) (fault : SceneFault) → ReadsAll old.source new.source bytes → text_is bytes ≡ Refused fault → shown new.sink new.log ≡ shown old.sink old.log → HasNoted old.notes new.notes (scene_line fault) → IsReader words × RefusesScene old new
  refused bytes old new fault all faulty same noted = (
    reader,
    record {
      bytes = bytes;
      all = all;
      fault = fault;
      faulty = faulty;
      refuses = record { sink = ap (λ (s : Shown). s.sink) same; log = ap (λ (s : Shown). s.log) same; noted = noted };
    },
  )

  -- a run whose words and source were read, and whose fault was noted
  pub runs_from : (bytes : List ℕ) (old new : Outside) (result : Result (Unit {0}) RunFault) → ReadsAll old.source new.source bytes → EndsWith command (text_is bytes) (shown old.sink old.log) (shown new.sink new.log) result → IsNoted result old.notes new.notes → RunsTo words old new (status_for result)
  runs_from bytes old new (Ok done) all e noted = promised old new _ (few_read _ _ bytes all.read) (record {
    command = command;
    read_words = is;
    scene = e.scene;
    has = reads_scene old new bytes e.scene all e.valid;
    wrote = e.wrote;
    log = e.log;
    noted = noted;
  })
  runs_from bytes old new (Err Write) all e noted = promised old new _ (few_read _ _ bytes all.read) (record {
    command = command;
    read_words = is;
    scene = e.scene;
    has = reads_scene old new bytes e.scene all e.valid;
    wrote = e.wrote;
    log = e.log;
    noted = noted;
  })
  runs_from bytes old new (Err (Scene fault)) all e noted = promised old new _ (few_read _ _ bytes all.read) (refused bytes old new fault all e.0 e.1 noted)
  runs_from bytes old new (Err NoMemory) all e noted = promised old new _ (few_read _ _ bytes all.read) (all.read.well, record { sink = ap (λ (s : Shown). s.sink) e; log = ap (λ (s : Shown). s.log) e; noted = noted })
  runs_from bytes old new (Err Words) all e noted = absurd e
  runs_from bytes old new (Err Read) all e noted = absurd e

-- a run that left the source alone
pub left_alone : (words : List (List ℕ)) (old new : Outside) (status : Status) → new.source ≡ old.source → EndsAs words old new status → RunsTo words old new status
left_alone words old new status same ends = record { ends = ends; complete = complete words old new status ends; read = nothing_read old.source new.source same; unread = λ _ _ _. same }

-- the words are this command, which makes its scene
module _ (words : List (List ℕ)) (command : Command) (is : reading words ≡ Some command) (makes : command.job ≡ Demo) where
  makes_scene : (old new : Outside) (scene : SceneView) → new.source ≡ old.source → SceneText (demo_scene command.seed) ≡ SceneText scene → HasScene command old new scene
  makes_scene old new scene same valid = record {
    read = λ reads. absurd (reads makes);
    made = λ _. ((let e : scene ≡ demo_scene command.seed = cc in e), same);
  }

  pub runs_made : (old new : Outside) (result : Result (Unit {0}) RunFault) → new.source ≡ old.source → EndsWith command (SceneText (demo_scene command.seed)) (shown old.sink old.log) (shown new.sink new.log) result → IsNoted result old.notes new.notes → RunsTo words old new (status_for result)
  runs_made old new (Ok done) same e noted = left_alone words old new _ same (record {
    command = command;
    read_words = is;
    scene = e.scene;
    has = makes_scene old new e.scene same e.valid;
    wrote = e.wrote;
    log = e.log;
    noted = noted;
  })
  runs_made old new (Err Write) same e noted = left_alone words old new _ same (record {
    command = command;
    read_words = is;
    scene = e.scene;
    has = makes_scene old new e.scene same e.valid;
    wrote = e.wrote;
    log = e.log;
    noted = noted;
  })
  runs_made old new (Err (Scene fault)) same e noted = absurd (let f : SceneText (demo_scene command.seed) ≡ Refused fault = e.0 in cc)
  runs_made old new (Err NoMemory) same e noted = left_alone words old new _ same (ap (λ (s : SourceView). s.faults) same, record { sink = ap (λ (s : Shown). s.sink) e; log = ap (λ (s : Shown). s.log) e; noted = noted })
  runs_made old new (Err Words) same e noted = absurd e
  runs_made old new (Err Read) same e noted = absurd e
