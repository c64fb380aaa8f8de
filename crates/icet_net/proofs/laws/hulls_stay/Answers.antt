use Rattle.icet_net.proofs.DriveKeeps.{still_hulls}
use Rattle.icet_net.proofs.laws.hulls_stay.Goals as goal

pub returns : goal.returns
returns c = still_hulls
