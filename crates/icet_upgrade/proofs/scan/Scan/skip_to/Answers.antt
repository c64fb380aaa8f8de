use Rattle.std.proofs.Common.{refl, arith}
use Rattle.icet_upgrade.proofs.Steps.{skip_passes}
use Rattle.icet_upgrade.proofs.scan.Scan.skip_to.Goals as goal

pub returns : goal.returns
returns c = skip_passes _ _ _ _ _ c.args.column c.requires.scan c.in_ok-end_run.ensures (omega arith) c.requires.within refl refl refl refl
