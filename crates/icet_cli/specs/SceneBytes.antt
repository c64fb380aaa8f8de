-- What was read of a source.
use Rattle.std.specs.Prelude.{◌≡◌, ℕ, ◌+◌, ◌≤◌, List, length}
use Rattle.std.specs.Io.KnownBytes.{Consumes, IsAtEnd}
use Rattle.icet_model.specs.declared.limits.TheConstants.{MAX_READ, MAX_SCENE_BYTES}
use Rattle.icet_model.specs.Faults.{Rose}
use Rattle.icet_model.specs.Streams.{SourceView}
use Rattle.icet_cli.specs.declared.run_fault.RunFault.{RunFault}
use Rattle.icet_cli.specs.declared.run_fault.RunFault.TheVariants.{Read, NoMemory}

-- no more than a scene may have and one read more was read, whatever came of it
pub record ReadsFew (old new : SourceView) : Type 0 where
  pub bytes : List ℕ
  pub consumed : Consumes old.left new.left bytes
  pub few : length bytes ≤ MAX_SCENE_BYTES + MAX_READ

-- these bytes were read so far, and no read failed
pub record HasRead (old new : SourceView) (bytes : List ℕ) : Type 0 where
  pub consumed : Consumes old.left new.left bytes
  pub few : length bytes ≤ MAX_SCENE_BYTES + MAX_READ
  pub well : new.faults ≡ old.faults

-- these are all bytes that were left, or more than a scene may have
pub record ReadsAll (old new : SourceView) (bytes : List ℕ) : Type 0 where
  pub read : HasRead old new bytes
  pub whole : length bytes ≤ MAX_SCENE_BYTES → IsAtEnd new.left

-- why the bytes weren't read: a read failed, or memory was wanting where no read had failed
abbrev pub FailsToRead : RunFault → SourceView → SourceView → Type 0
FailsToRead Read old new = ReadsFew old new × Rose old.faults new.faults
FailsToRead NoMemory old new = ReadsFew old new × (new.faults ≡ old.faults)
FailsToRead fault old new = ⊥
