use Rattle.icet_model.specs.Bracket.{leaves}
use Rattle.icet_multi.proofs.Absent.{tile_leaves, leaves_out_blank}
use Rattle.icet_multi.proofs.laws.absent.Goals as goal

pub returns-clause-leaves : goal.returns-clause-leaves
returns-clause-leaves c = tile_leaves

pub returns-clause-blank : goal.returns-clause-blank
returns-clause-blank c = λ mode drawers area bracket e. leaves_out_blank mode drawers.shapes drawers.ranks drawers.order area drawers.known (leaves bracket) e
