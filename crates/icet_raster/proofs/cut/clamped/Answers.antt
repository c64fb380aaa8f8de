use Rattle.std.proofs.Common.{arith}
use Rattle.std.proofs.lemmas.Int.{ints, clamps}
use Rattle.icet_raster.proofs.cut.clamped.Goals as goal

pub overflow_cast-result : goal.overflow_cast-result
overflow_cast-result c = (omega (arith, ints, clamps), omega (arith, ints, clamps))

pub returns : goal.returns
returns c = omega (arith, ints, clamps)
