use Rattle.icet_rank.proofs.MachineMoves.{outbox_met, inbox_met}
use Rattle.icet_rank.proofs.machine.sync_pair.Goals as goal

pub sync_ports-requires-clause-out_ascend : goal.sync_ports-requires-clause-out_ascend
sync_ports-requires-clause-out_ascend g c κs within = c.sender.invariant.runs.out_ascend

pub sync_ports-requires-clause-in_ascend : goal.sync_ports-requires-clause-in_ascend
sync_ports-requires-clause-in_ascend g c κs within = c.receiver.invariant.runs.in_ascend

pub sync_ports-requires-clause-paired : goal.sync_ports-requires-clause-paired
sync_ports-requires-clause-paired g c κs within = rw (← c.sender.view_is, ← c.receiver.view_is) at c.requires

pub invariant_of-sender : goal.invariant_of-sender
invariant_of-sender g c = outbox_met c.sender.invariant c.sync_ports.new.outboxes c.sync_ports.ensures.out

pub invariant_of-receiver : goal.invariant_of-receiver
invariant_of-receiver g c = inbox_met c.receiver.invariant c.sync_ports.new.inboxes c.sync_ports.ensures.inbox

pub returns-clause-out : goal.returns-clause-out
returns-clause-out g c = rw (← c.sender.view_is, ← c.receiver.view_is) c.sync_ports.ensures.out

pub returns-clause-inbox : goal.returns-clause-inbox
returns-clause-inbox g c = rw (← c.sender.view_is, ← c.receiver.view_is) c.sync_ports.ensures.inbox

pub returns-clause-pair : goal.returns-clause-pair
returns-clause-pair g c = rw (← c.sender.view_is, ← c.receiver.view_is) c.sync_ports.ensures.paired

pub returns-clause-synced : goal.returns-clause-synced
returns-clause-synced g c = c.sync_ports.ensures.synced
