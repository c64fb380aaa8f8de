use Rattle.std.proofs.Common.{◌≡◌}
use Rattle.icet_net.specs.Ranks.{AreHulls, EachRank, MetOthers}
use Rattle.icet_net.specs.Syncs.{AreSyncedBelow}
use Rattle.icet_net.proofs.syncing.sync_all.Given as goal

abbrev pub invariant-syncing : goal.invariant-syncing
invariant-syncing g l = record {
  hulls : AreHulls l.hull l.ranks;
  same : EachRank MetOthers l.fn.ranks l.ranks;
  synced : AreSyncedBelow l.i l.hull.cap l.hull.pairs l.ranks;
  owed : g.W.Wires.owed l.wires ≡ g.W.Wires.owed l.fn.wires;
  log : g.W.Wires.log l.wires ≡ g.W.Wires.log l.fn.wires;
}
