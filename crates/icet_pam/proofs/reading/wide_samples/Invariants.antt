use Rattle.std.proofs.Common.{true, take, ◌*◌}
use Rattle.icet_pam.specs.Pictures.{AreSamplesOf}
use Rattle.icet_pam.proofs.reading.wide_samples.Given as goal

abbrev pub invariant-loop-at : goal.invariant-loop-at
invariant-loop-at l = AreSamplesOf true (take (2 * l.at) l.bytes) l.samples.items
