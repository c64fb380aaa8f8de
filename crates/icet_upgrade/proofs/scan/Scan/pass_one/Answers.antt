use Rattle.std.proofs.Common.{◌∷◌, [], OnOk, sym, subst}
use Rattle.icet_upgrade.specs.Scans.{Passes}
use Rattle.icet_model.specs.Pixel.{Pixel}
use Rattle.icet_upgrade.proofs.RowParts.{ok_at}
use Rattle.icet_upgrade.proofs.scan.Scan.pass_one.Goals as goal

pub returns-in-Some : goal.returns-in-Some
returns-in-Some c = subst (λ (p : Pixel). OnOk c.pass_drawn.result (Passes c.args.self.now c.args.spans.now.items c.pass_drawn.new.self c.args.spans.now.items (p ∷ []))) (sym c.in-Some.is) (ok_at _ c.pass_drawn.result c.pass_drawn.ensures c.args.spans.now.items)
