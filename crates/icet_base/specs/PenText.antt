-- The text of a pen, and what a put does to it. `told` is what a sink of its kind tells.
use Rattle.std.specs.Prelude.{◌≡◌, ℕ, ◌≤◌, List, length, take, Option, Result, OnOk, OnErr, is_err}
use Rattle.std.specs.Io.KnownBytes.{append_known, Appends}
use Rattle.icet_model.specs.Bytes.{Extends, HasFront}
use Rattle.icet_model.specs.Faults.{HasCause}
use Rattle.icet_model.specs.Streams.{SinkView}
use Rattle.icet_base.specs.declared.faults.WriteFault.{WriteFault}
use Rattle.icet_base.specs.declared.pen.Pen.{Pen}

-- what the sink has written, and then the bytes that wait in the pen
abbrev pub text_of : {K : Type 0} → (K → SinkView) → Pen K → Option (List ℕ)
text_of told pen = append_known (told pen.sink.now).written pen.waiting.items

-- a call that puts these bytes: at Ok the text grew by them; at a fault the sink holds a front of the
-- text followed by them, and the pen has failed; what was written stays at the front, and the pen
-- keeps its sink
pub record Puts {K : Type 0} (told : K → SinkView) (old new : Pen K) (result : Result (Unit {0}) WriteFault) (bytes : List ℕ) : Type 0 where
  pub grew : OnOk result (Appends (text_of told old) (text_of told new) bytes)
  pub within : OnErr result (HasFront (append_known (text_of told old) bytes) (told new.sink.now).written)
  pub extends : Extends (told old.sink.now).written (told new.sink.now).written
  pub cause : HasCause (told old.sink.now).faults (told new.sink.now).faults result
  pub failed : new.failed ≡ is_err result
  pub same_reference : new.sink.ghost_name ≡ old.sink.ghost_name

-- the first so many bytes of a piece are written, and nothing failed
pub record Writing (old new : SinkView) (piece : List ℕ) (at : ℕ) : Type 0 where
  pub within : at ≤ length piece
  pub grew : Appends old.written new.written (take at piece)
  pub well : new.faults ≡ old.faults
