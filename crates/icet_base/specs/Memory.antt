-- Sources and sinks in memory: what contracts see of them, what they tell, and what a call answers.
use Rattle.std.specs.Prelude.{ℕ, Bool, if◌then◌else◌, ◌==◌, ◌||◌, min, List, length, Some, None, Result, Ok, Err}
use Rattle.std.specs.List.{list_any}
use Rattle.icet_model.specs.Streams.{SourceView, SinkView}
use Rattle.icet_base.specs.declared.faults.ReadFault.{ReadFault}
use Rattle.icet_base.specs.declared.faults.WriteFault.{WriteFault}

-- the bytes that are left, the most that one call gives, the numbers of the calls that fail, how
-- many calls there were, and how many failed
pub record MemSourceView : Type 0 where
  pub left : List ℕ
  pub most : ℕ
  pub fails : List ℕ
  pub calls : ℕ
  pub faults : ℕ

-- it tells everything
abbrev pub source_view : MemSourceView → SourceView
source_view s = record { left = Some s.left; faults = s.faults }

-- the bytes that were written, how many more there is room for, the most that one call takes, the
-- numbers of the calls that fail, how many calls there were, and how many failed
pub record MemSinkView : Type 0 where
  pub written : List ℕ
  pub room : ℕ
  pub most : ℕ
  pub fails : List ℕ
  pub calls : ℕ
  pub faults : ℕ

-- it tells everything
abbrev pub sink_view : MemSinkView → SinkView
sink_view s = record { written = Some s.written; faults = s.faults }

-- this call is one of those that fail
abbrev pub is_listed : ℕ → List ℕ → Bool
is_listed call fails = list_any (λ k. k == call) fails

-- a call that doesn't fail gives as many bytes as it may
abbrev pub read_answer : MemSourceView → ℕ → Result ℕ ReadFault
read_answer s len = if is_listed s.calls s.fails then Err (record {}) else Ok (min (min s.most len) (length s.left))

-- a call fails where it is listed, and where no room is left
abbrev pub write_answer : MemSinkView → ℕ → Result ℕ WriteFault
write_answer s len = if is_listed s.calls s.fails || (s.room == 0) then Err (record {}) else Ok (min (min s.most len) s.room)

-- a source that never fails
pub record SureSourceView : Type 0 where
  pub left : List ℕ
  pub most : ℕ

-- it tells everything, and no fault
abbrev pub sure_source_view : SureSourceView → SourceView
sure_source_view s = record { left = Some s.left; faults = 0 }

-- a sink that tells nothing, and no fault
abbrev pub silent_view : SinkView
silent_view = record { written = None; faults = 0 }
