use Rattle.std.proofs.Common.{rules}
use Rattle.icet_pixel.proofs.dense.Dense.set.Goals as goal

pub returns : goal.returns
returns c = search rules
