use Rattle.std.proofs.Common.{◌≡◌, ◌+◌, length}
use Rattle.std.specs.List.{flat_map, range_with_len}
use Rattle.icet_net.specs.Net.{pairs_from}
use Rattle.icet_net.proofs.Reaching.{Opens}
use Rattle.icet_net.proofs.porting.open_ports.Given as goal

abbrev pub invariant-opening : goal.invariant-opening
invariant-opening g l = record {
  pairs : l.pairs.items ≡ flat_map (pairs_from l.plan (length l.plan.programs)) (range_with_len 0 l.from);
  opened : Opens l.plan l.cap l.from l.inboxes.items l.outboxes.items;
  log : g.W.Wires.log l.wires ≡ g.W.Wires.log l.fn.wires;
  owed : g.W.Wires.owed l.wires ≡ g.W.Wires.owed l.fn.wires + length (flat_map (pairs_from l.plan (length l.plan.programs)) (range_with_len 0 l.from));
}
