-- What a run leaves literally as it was, by its status.
use Rattle.std.specs.Prelude.{◌≡◌, ℕ, ⊤}
use Rattle.icet_cli.specs.declared.status.Status.{Status}
use Rattle.icet_cli.specs.declared.status.Status.TheVariants.{Ok, WordsRefused, WriteFault, NoMemory}

-- nothing is read where the words are refused
abbrev pub LeavesSource : {S : Type 0} → Status → S → S → Type 0
LeavesSource WordsRefused old new = new ≡ old
LeavesSource status old new = ⊤

-- the sink is written to only where all goes well, or the sink fails
abbrev pub LeavesSink : {K : Type 0} → Status → K → K → Type 0
LeavesSink Ok old new = ⊤
LeavesSink WriteFault old new = ⊤
LeavesSink status old new = new ≡ old

-- the wires are used only by a job
abbrev pub LeavesWires : {W : Type 0} → Status → W → W → Type 0
LeavesWires Ok old new = ⊤
LeavesWires WriteFault old new = ⊤
LeavesWires NoMemory old new = ⊤
LeavesWires status old new = new ≡ old

-- what the wires owe: each pair that was opened is closed, unless memory is wanting
abbrev pub LeavesOwed : Status → ℕ → ℕ → Type 0
LeavesOwed NoMemory before now = ⊤
LeavesOwed status before now = now ≡ before

-- nothing is noted where all goes well
abbrev pub LeavesNotes : {N : Type 0} → Status → N → N → Type 0
LeavesNotes Ok old new = new ≡ old
LeavesNotes status old new = ⊤
