use Rattle.std.proofs.Common.{refl}
use Rattle.icet_model.proofs.examples.two_pixels.Goals as goal

pub returns-clause-tie : goal.returns-clause-tie
returns-clause-tie c = refl
