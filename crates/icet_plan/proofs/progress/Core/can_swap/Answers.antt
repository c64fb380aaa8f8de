use Rattle.std.proofs.Common.{arith}
use Rattle.std.proofs.lemmas.Grind.{common_steps}
use Rattle.icet_plan.proofs.progress.Core.can_swap.Goals as goal

pub returns-in-Send : goal.returns-in-Send
returns-in-Send c = grind (arith, common_steps)
