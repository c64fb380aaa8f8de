use Rattle.std.proofs.Common.{false, take}
use Rattle.icet_pam.specs.Pictures.{AreSamplesOf}
use Rattle.icet_pam.proofs.reading.narrow_samples.Given as goal

abbrev pub invariant-loop-byte : goal.invariant-loop-byte
invariant-loop-byte l = AreSamplesOf false (take l.byte-index l.bytes) l.samples.items
