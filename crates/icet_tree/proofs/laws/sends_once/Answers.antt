use Rattle.icet_legs.specs.Powers.{ceil_log2}
use Rattle.icet_tree.proofs.TreeSends.{sends_once}
use Rattle.icet_tree.proofs.laws.sends_once.Goals as goal

pub returns : goal.returns
returns c = λ g shows p. sends_once g p (ceil_log2 g.n) shows
