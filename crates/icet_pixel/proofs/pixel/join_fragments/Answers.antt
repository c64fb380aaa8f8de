use Rattle.std.proofs.Common.{rules}
use Rattle.icet_pixel.proofs.pixel.join_fragments.Goals as goal

pub returns-else-z : goal.returns-else-z
returns-else-z c = search rules
