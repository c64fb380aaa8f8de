use Rattle.std.proofs.Common.{map, length}
use Rattle.std.specs.List.{range_with_len}
use Rattle.icet_legs.specs.InRow.{row_program, tile_ops_at}
use Rattle.icet_legs.proofs.RowSteps.{programs_are, programs_short, if_same}
use Rattle.icet_legs.proofs.row.programs_of.Goals as goal

pub finish-requires : goal.finish-requires
finish-requires c = programs_short c.args.ranks c.args.legs.now c.requires.legs c.in_ok-drafts.drafts.items c.requires.few c.in_ok-drafts.ensures

pub returns : goal.returns
returns c = if_same (λ all. all.items) c.in_ok-drafts.drafts.items (map (row_program (tile_ops_at c.args.legs.now) (length c.args.legs.now)) (range_with_len 0 c.args.ranks)) (programs_are c.args.ranks c.args.legs.now c.requires.legs c.in_ok-drafts.drafts.items c.in_ok-drafts.ensures) c.finish.result c.finish.ensures
