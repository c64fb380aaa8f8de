-- What each fault of a run is noted as, and the status that it ends with.
use Rattle.std.specs.Prelude.{◌≡◌, ℕ, List, Some, Result, Ok, Err}
use Rattle.icet_model.specs.Streams.{SinkView}
use Rattle.icet_scene_model.specs.FaultLines.{words_line, read_line, write_line, memory_line, scene_line}
use Rattle.icet_words.specs.CommandLine.{Command, reading}
use Rattle.icet_jobs.specs.declared.replay.JobFault.{JobFault}
use Rattle.icet_jobs.specs.declared.replay.JobFault.TheVariants.{Write as JobWrite, NoMemory as JobMemory}
use Rattle.icet_scene_model.specs.declared.fault.SceneFault.{SceneFault}
use Rattle.icet_scene_model.specs.declared.fault.SceneFault.TheVariants.{NoMemory as SceneMemory}
use Rattle.icet_cli.specs.Notes.{HasNoted}
use Rattle.icet_cli.specs.Outcome.{RunsTo, Work, with_notes}
use Rattle.icet_cli.specs.declared.run_fault.RunFault.{RunFault}
use Rattle.icet_cli.specs.declared.run_fault.RunFault.TheVariants.{Words, Read, Scene, Write, NoMemory}
use Rattle.icet_cli.specs.declared.status.Status.{Status}
use Rattle.icet_cli.specs.declared.status.Status.TheVariants.{Ok as OkStatus, SceneRefused, WordsRefused, ReadFault, WriteFault, NoMemory as MemoryStatus}

abbrev pub of_scene : SceneFault → RunFault
of_scene SceneMemory = NoMemory
of_scene fault = Scene fault

abbrev pub of_job : JobFault → RunFault
of_job JobWrite = Write
of_job JobMemory = NoMemory

-- the status that a run with this fault ends with
abbrev pub status_of : RunFault → Status
status_of Words = WordsRefused
status_of Read = ReadFault
status_of (Scene fault) = SceneRefused
status_of Write = WriteFault
status_of NoMemory = MemoryStatus

-- the line that the notes get of this fault
abbrev pub line_of : RunFault → List ℕ
line_of Words = words_line
line_of Read = read_line
line_of (Scene fault) = scene_line fault
line_of Write = write_line
line_of NoMemory = memory_line

-- the status of a run that went well, or had this fault
abbrev pub status_for : Result (Unit {0}) RunFault → Status
status_for (Ok done) = OkStatus
status_for (Err fault) = status_of fault

-- the notes got nothing of a run that went well, and else the fault's line
abbrev pub IsNoted : Result (Unit {0}) RunFault → SinkView → SinkView → Type 0
IsNoted (Ok done) old new = new ≡ old
IsNoted (Err fault) old new = HasNoted old new (line_of fault)

-- a run that isn't noted yet: noted, it is one that is promised
abbrev pub Ends : List (List ℕ) → Work → Work → Result (Unit {0}) RunFault → Type 0
Ends words old new result = (before after : SinkView) → IsNoted result before after → RunsTo words (with_notes old before) (with_notes new after) (status_for result)

-- a run of this command, whatever its words are
abbrev pub CommandEnds : Command → Work → Work → Result (Unit {0}) RunFault → Type 0
CommandEnds command old new result = (words : List (List ℕ)) → reading words ≡ Some command → Ends words old new result
