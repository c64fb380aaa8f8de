use Rattle.std.proofs.Common.{◌≡◌, ◌++◌, ◌∷◌, [], take, get_or, sym, ap, ◌∙◌, subst}
use Rattle.std.proofs.lemmas.List.{take_more}
use Rattle.icet_model.specs.Pixel.{Pixel}
use Rattle.icet_upgrade.specs.Scans.{Passes}
use Rattle.icet_upgrade.proofs.RowParts.{passes_more}
use Rattle.icet_upgrade.proofs.scan.Scan.pass.Goals as goal

pub loop-pixel-preserved : goal.loop-pixel-preserved
loop-pixel-preserved c = passes_more _ _ _ _ _ _ c.args.pixels.now c.loop-pixel.pixel-index c.pixel-item.result c.loop-pixel-test.true c.pixel-item.is c.loop-pixel.invariant c.in_ok-pass_one.ensures
