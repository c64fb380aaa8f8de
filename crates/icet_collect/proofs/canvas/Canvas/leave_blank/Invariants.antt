use Rattle.std.proofs.Common.{replicate, None}
use Rattle.icet_model.specs.Pixel.{Pixel}
use Rattle.icet_collect.specs.Collect.{Places, stretch}
use Rattle.icet_collect.proofs.Positions.{below}
use Rattle.icet_collect.proofs.canvas.Canvas.leave_blank.Given as goal

abbrev pub invariant-leaving : goal.invariant-leaving
invariant-leaving l = Places l.initial.self l.self (below (stretch l.initial.self.tile l.at (replicate {A = Pixel} l.count None)) l.position)
