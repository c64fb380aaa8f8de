use Rattle.std.proofs.Common.{arith}
use Rattle.std.proofs.lemmas.Int.{ints, clamps}
use Rattle.icet_raster.proofs.frame.least_of.Goals as goal

pub returns-clause-range : goal.returns-clause-range
returns-clause-range c = record { least = omega (arith, ints, clamps); greatest = omega (arith, ints, clamps) }
