-- Sources and sinks as contracts see them, and what a call does to one.
use Rattle.std.specs.Prelude.{ℕ, ◌<◌, ◌≤◌, List, length, Option, Result, IfOk, OnOk, OnErr}
use Rattle.std.specs.Io.KnownBytes.{ReadConsumes, WriteAppends, Keeps, Appends, append_known}
use Rattle.icet_model.specs.Bytes.{Extends, HasFront}
use Rattle.icet_model.specs.Faults.{HasCause}

-- the bytes left, where the source tells them, and how often a read failed
pub record SourceView : Type 0 where
  pub left : Option (List ℕ)
  pub faults : ℕ

-- the bytes written, where the sink tells them, and how often a write or a flush failed
pub record SinkView : Type 0 where
  pub written : Option (List ℕ)
  pub faults : ℕ

-- a read into a buffer, which then holds these bytes: it moves the first bytes of what is left to the
-- front of the buffer and answers how many, none only where nothing was left; a failed read moves none
pub record Reads {E : Type 0} (old new : SourceView) (result : Result ℕ E) (buffer : List ℕ) : Type 0 where
  pub count : IfOk result (λ n. n ≤ length buffer)
  pub bytes : ReadConsumes old.left new.left result buffer
  pub cause : HasCause old.faults new.faults result

-- a write of a piece: it appends the first bytes of the piece and answers how many, at least one; a
-- failed write appends none
pub record Writes {E : Type 0} (old new : SinkView) (result : Result ℕ E) (piece : List ℕ) : Type 0 where
  pub count : IfOk result (λ n. (0 < n) × (n ≤ length piece))
  pub bytes : WriteAppends old.written new.written result piece
  pub cause : HasCause old.faults new.faults result

-- a flush: what was written stays
pub record Flushes {E : Type 0} (old new : SinkView) (result : Result (Unit {0}) E) : Type 0 where
  pub same : Keeps old.written new.written
  pub cause : HasCause old.faults new.faults result

-- the bytes are appended to what was written; at a fault only a front of them is
pub record WritesAll {E : Type 0} (old new : SinkView) (result : Result (Unit {0}) E) (bytes : List ℕ) : Type 0 where
  pub grew : OnOk result (Appends old.written new.written bytes)
  pub within : OnErr result (HasFront (append_known old.written bytes) new.written)
  pub extends : Extends old.written new.written
  pub cause : HasCause old.faults new.faults result
