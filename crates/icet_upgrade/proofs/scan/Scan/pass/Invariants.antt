use Rattle.std.proofs.Common.{take}
use Rattle.icet_upgrade.specs.Scans.{Passes}
use Rattle.icet_upgrade.proofs.scan.Scan.pass.Given as goal

abbrev pub invariant-loop-pixel : goal.invariant-loop-pixel
invariant-loop-pixel l = Passes l.initial.self l.initial.spans.items l.self l.spans.items (take l.pixel-index l.pixels)
