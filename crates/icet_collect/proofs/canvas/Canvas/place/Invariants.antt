use Rattle.std.proofs.Common.{◌≡◌, ◌-◌, ◌≤◌, drop}
use Rattle.icet_collect.specs.Collect.{Places}
use Rattle.icet_collect.proofs.Positions.{below}
use Rattle.icet_collect.proofs.canvas.Canvas.place.Given as goal

abbrev pub invariant-placing : goal.invariant-placing
invariant-placing l = record {
  placed : Places l.initial.self l.self (below l.piece l.at);
  walk : l.walk ≡ drop (l.at - l.piece.lo) l.piece.content;
  from : l.piece.lo ≤ l.at;
  within : l.at ≤ l.piece.hi;
}

abbrev pub decreases-placing : goal.decreases-placing
decreases-placing l = l.piece.hi - l.at
