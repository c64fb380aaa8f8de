use Rattle.icet_groups.proofs.Grouped.{each_can}
use Rattle.icet_groups.proofs.Sharing.{are_shared}
use Rattle.icet_groups.proofs.laws.places_are_shared.Goals as goal

pub returns-clause-shared : goal.returns-clause-shared
returns-clause-shared c = are_shared

pub returns-clause-enough : goal.returns-clause-enough
returns-clause-enough c = each_can
