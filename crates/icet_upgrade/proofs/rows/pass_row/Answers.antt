use Rattle.std.proofs.Common.{◌++◌, replicate, None, ap, ◌∙◌}
use Rattle.std.proofs.Common.{◌-◌, List, max}
use Rattle.icet_model.specs.Pixel.{Pixel}
use Rattle.icet_upgrade.proofs.RowParts.{joined_passes, parts}
use Rattle.icet_upgrade.proofs.rows.pass_row.Goals as goal

pub returns : goal.returns
returns c =
    joined_passes c.pass.result _ _ _ _ _ _ _ c.row_from.result.now _ c.in_ok-skip_to.ensures c.pass.ensures
    (ap (λ (qs : List Pixel). replicate {A = Pixel} (c.max-left.result - c.args.scan.now.next) None ++ qs) c.row_from.ensures
    ∙ parts c.args.tile.now c.args.scan.now.next c.args.scan.now.y _ c.max-left.result (c.max-left.ensures ∙ ap (λ l. max l c.args.scan.now.next) c.left.ensures.value) c.in_ok-skip_to.ensures.row)
