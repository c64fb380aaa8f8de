use Rattle.std.proofs.Common.{◌≡◌, ◌+◌, ◌++◌, length}
use Rattle.icet_net.specs.Net.{pairs_from}
use Rattle.icet_net.proofs.Reaching.{Reaches}
use Rattle.icet_net.proofs.porting.open_from.Given as goal

abbrev pub invariant-reaching : goal.invariant-reaching
invariant-reaching g l = record {
  pairs : l.pairs.items ≡ l.fn.pairs.items ++ pairs_from l.plan l.to l.from;
  opened : Reaches l.plan l.cap l.from l.to l.fn.inboxes.items l.inboxes.items l.outs;
  log : g.W.Wires.log l.wires ≡ g.W.Wires.log l.fn.wires;
  owed : g.W.Wires.owed l.wires ≡ g.W.Wires.owed l.fn.wires + length (pairs_from l.plan l.to l.from);
}
