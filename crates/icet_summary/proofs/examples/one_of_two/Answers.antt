use Rattle.std.proofs.Common.{refl}
use Rattle.std.specs.Fmt.{digits}
use Rattle.icet_summary.proofs.examples.one_of_two.Goals as goal

pub returns : goal.returns
unfolding digits
returns c = refl
