use Rattle.std.proofs.Common.{map, Some}
use Rattle.icet_collect.specs.Collect.{Places, stretch}
use Rattle.icet_collect.proofs.Positions.{below}
use Rattle.icet_collect.proofs.canvas.Canvas.put_run.Given as goal

abbrev pub invariant-putting : goal.invariant-putting
invariant-putting l = Places l.initial.self l.self (below (stretch l.initial.self.tile l.at (map Some l.fragments)) l.position)
