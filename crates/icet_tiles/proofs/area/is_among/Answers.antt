use Rattle.std.proofs.Common.{arith}
use Rattle.std.proofs.lemmas.Grind.{common_steps}
use Rattle.icet_tiles.proofs.area.is_among.Goals as goal

pub returns-then-first-number : goal.returns-then-first-number
returns-then-first-number c = grind (arith, common_steps)
