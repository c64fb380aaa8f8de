use Rattle.std.proofs.Common.{◌≡◌}
use Rattle.icet_net.specs.Ranks.{AreHulls}
use Rattle.icet_net_tests.proofs.closing.step_often.Given as goal

abbrev pub invariant-stepping : goal.invariant-stepping
invariant-stepping g l = record {
  hulls : AreHulls l.hull l.ranks.items;
  owed : g.W.Wires.owed l.wires ≡ g.W.Wires.owed l.initial.wires;
}
