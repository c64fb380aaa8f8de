use Rattle.icet_net.proofs.MetPorts.{pair_met, hulls_met, synced_more}
use Rattle.icet_net.proofs.HullPairs.{on_ok_then, hull_used, hull_apart, hull_from, hull_to, hull_sender, hull_receiver, hull_paired}
use Rattle.icet_net.proofs.syncing.sync_at.Goals as goal

pub sync_two-requires-clause-from : goal.sync_two-requires-clause-from
sync_two-requires-clause-from g c κs within = hull_from _ _ _ _ c.requires.hulls c.pair-from.ensures.known c.pair-from.ensures.pair

pub sync_two-requires-clause-to : goal.sync_two-requires-clause-to
sync_two-requires-clause-to g c κs within = hull_to _ _ _ _ c.requires.hulls c.pair-from.ensures.known c.pair-from.ensures.pair

pub sync_two-requires-clause-apart : goal.sync_two-requires-clause-apart
sync_two-requires-clause-apart g c κs within = hull_apart _ _ _ c.pair-from.ensures.known c.pair-from.ensures.pair

pub sync_two-requires-clause-sender : goal.sync_two-requires-clause-sender
sync_two-requires-clause-sender g c κs within = hull_sender _ _ _ _ c.requires.hulls c.pair-from.ensures.known c.pair-from.ensures.pair

pub sync_two-requires-clause-receiver : goal.sync_two-requires-clause-receiver
sync_two-requires-clause-receiver g c κs within = hull_receiver _ _ _ _ c.requires.hulls c.pair-from.ensures.known c.pair-from.ensures.pair

pub sync_two-requires-clause-paired : goal.sync_two-requires-clause-paired
sync_two-requires-clause-paired g c κs within = hull_paired _ _ _ _ c.requires.hulls c.pair-from.ensures.known c.pair-from.ensures.pair _ c.cap.ensures.cap

pub returns-clause-hulls : goal.returns-clause-hulls
returns-clause-hulls g c = hulls_met _ _ _ _ _ (hull_apart _ _ _ c.pair-from.ensures.known c.pair-from.ensures.pair) c.sync_two.ensures.met _ c.requires.hulls c.cap.ensures.cap (hull_used _ _ _ c.pair-from.ensures.known c.pair-from.ensures.pair).carries

pub returns-clause-same : goal.returns-clause-same
returns-clause-same g c = pair_met _ _ _ _ _ (hull_apart _ _ _ c.pair-from.ensures.known c.pair-from.ensures.pair) c.sync_two.ensures.met

pub returns-clause-synced : goal.returns-clause-synced
returns-clause-synced g c = on_ok_then c.sync_two.result (λ here. synced_more _ _ _ _ _ (hull_apart _ _ _ c.pair-from.ensures.known c.pair-from.ensures.pair) c.sync_two.ensures.met here _ _ _ c.cap.ensures.cap c.pair-from.ensures.pair) c.sync_two.ensures.synced
