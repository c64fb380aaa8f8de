use Rattle.std.proofs.Common.{rules}
use Rattle.icet_net.proofs.closing.close_net.Goals as goal

pub returns-in-None-clause-rank : goal.returns-in-None-clause-rank
returns-in-None-clause-rank g c = search rules
