use Rattle.std.proofs.Common.{reverse, sym, ap, ◌∙◌, subst}
use Rattle.std.specs.Prelude.{option_map}
use Rattle.icet_rank.specs.Machine.{PartsView}
use Rattle.icet_rank.specs.Moves.{HasPeer, port_to}
use Rattle.icet_net.proofs.ClosePorts.{loses, set_same, element, seen_reversed, has_reversed}
use Rattle.icet_net.proofs.closing.take_inbox.Goals as goal

pub take_port-requires : goal.take_port-requires
take_port-requires g c =
    let there = element (λ (p : PartsView). reverse p.inboxes) c.args.parts.now c.rank.inside.0 c.args.rank c.index-parts-rank.result c.rank.view_is c.requires.within in
    has_reversed g.I.Inbox.port c.args.peer c.part.inside.inboxes.items (subst (λ xs. HasPeer c.args.peer xs) (there ∙ ap (λ (p : PartsView). reverse p.inboxes) (sym c.part.view_is)) c.requires.there)

pub returns-clause-port : goal.returns-clause-port
returns-clause-port g c =
    let there = element (λ (p : PartsView). reverse p.inboxes) c.args.parts.now c.rank.inside.0 c.args.rank c.index-parts-rank.result c.rank.view_is c.requires.within in
    ap (λ xs. port_to xs c.args.peer) (there ∙ ap (λ (p : PartsView). reverse p.inboxes) (sym c.part.view_is))
    ∙ (seen_reversed g.I.Inbox.port c.part.inside.inboxes.items c.args.peer ∙ ap (option_map g.I.Inbox.port) c.take_port.ensures.port)

pub returns-clause-inboxes : goal.returns-clause-inboxes
returns-clause-inboxes g c = loses (λ (p : PartsView). reverse p.inboxes) c.args.parts.now c.rank.inside.0 c.args.rank c.args.peer c.index-parts-rank.result _ c.rank.view_is c.requires.within (λ k n.
    seen_reversed g.I.Inbox.port c.take_port.new.ports.items k
    ∙ (ap (option_map g.I.Inbox.port) (c.take_port.ensures.others k n)
    ∙ (sym (seen_reversed g.I.Inbox.port c.part.inside.inboxes.items k)
    ∙ ap (λ (p : PartsView). port_to (reverse p.inboxes) k) c.part.view_is)))

pub returns-clause-outboxes : goal.returns-clause-outboxes
returns-clause-outboxes g c = set_same (λ (p : PartsView). reverse p.outboxes) c.args.parts.now c.rank.inside.0 c.index-parts-rank.result _ (ap (λ (p : PartsView). reverse p.outboxes) c.part.view_is)

pub returns-clause-kept : goal.returns-clause-kept
returns-clause-kept g c = set_same (λ (p : PartsView). p.kept) c.args.parts.now c.rank.inside.0 c.index-parts-rank.result _ (ap (λ (p : PartsView). p.kept) c.part.view_is)
