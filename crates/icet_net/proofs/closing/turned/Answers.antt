use Rattle.std.proofs.Common.{reverse, ap, ◌∙◌}
use Rattle.std.proofs.lemmas.List.{reverse-reverse}
use Rattle.icet_model.specs.Ports.{port_views}
use Rattle.icet_rank.specs.Machine.{PartsView}
use Rattle.icet_net.proofs.ClosePorts.{map_reverse}
use Rattle.icet_net.proofs.closing.turned.Goals as goal

pub returns-clause-inboxes : goal.returns-clause-inboxes
returns-clause-inboxes g c = rw c.reverse.ensures.items (map_reverse g.I.Inbox.port (reverse c.parts.inside.inboxes.items) ∙ (ap (port_views g.I.Inbox.port) (reverse-reverse _) ∙ ap (λ (p : PartsView). p.inboxes) c.parts.view_is))

pub returns-clause-outboxes : goal.returns-clause-outboxes
returns-clause-outboxes g c = rw c.reverse-2.ensures.items (map_reverse g.O.Outbox.port (reverse c.parts.inside.outboxes.items) ∙ (ap (port_views g.O.Outbox.port) (reverse-reverse _) ∙ ap (λ (p : PartsView). p.outboxes) c.parts.view_is))
