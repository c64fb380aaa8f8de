-- What the notes get of a fault.
use Rattle.std.specs.Prelude.{ℕ, List, Result}
use Rattle.icet_model.specs.Streams.{SinkView, WritesAll}
use Rattle.icet_base.specs.declared.faults.WriteFault.{WriteFault}

-- the line, or a front of it where the notes' own faults rose
pub record HasNoted (old new : SinkView) (line : List ℕ) : Type 0 where
  pub result : Result (Unit {0}) WriteFault
  pub wrote : WritesAll old new result line
