use Rattle.icet_groups.proofs.BlockLists.{blocks}
use Rattle.icet_groups.proofs.laws.blocks_are_lawful.Goals as goal

pub returns : goal.returns
returns c = blocks
