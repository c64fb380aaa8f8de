use Rattle.std.proofs.Common.{ap, sym, ◌∙◌, ◌++◌, ◌+◌, [], length, Some, None}
use Rattle.icet_model.specs.Wires.{Pairing, PortView}
use Rattle.icet_rank.proofs.PortMoves.{has_paired, peer_there, found, pairing_at, met_at, read_set, if_ok}
use Rattle.icet_rank.proofs.ports.sync_ports.Goals as goal

pub place_of-from-requires : goal.place_of-from-requires
place_of-from-requires g c =
    let p = rw (← c.outboxes.view_is) at c.requires.paired in
    rw c.deref.ensures.value (peer_there g.W.Out.Outbox.port c.args.receiver c.outboxes.inside.ports.items (has_paired (λ (q : PortView). q.pairing) c.args.receiver p.pairing _ p.out))

pub place_of-to-requires : goal.place_of-to-requires
place_of-to-requires g c =
    let p = rw (← c.inboxes.view_is) at c.requires.paired in
    rw c.deref-2.ensures.value (peer_there g.W.In.Inbox.port c.args.sender c.inboxes.inside.ports.items (has_paired (λ (q : PortView). q.pairing) c.args.sender p.pairing _ p.inbox))

pub sync-requires-clause-paired : goal.sync-requires-clause-paired
sync-requires-clause-paired g c =
    let p = rw (← c.outboxes.view_is, ← c.inboxes.view_is) at c.requires.paired in
    let from = found g.W.Out.Outbox.port _ _ _ _ _ (rw c.deref.ensures.value at c.place_of-from.ensures.within) (rw c.deref.ensures.value at c.place_of-from.ensures.there) c.index_mut-out.ensures.value in
    let to = found g.W.In.Inbox.port _ _ _ _ _ (rw c.deref-2.ensures.value at c.place_of-to.ensures.within) (rw c.deref-2.ensures.value at c.place_of-to.ensures.there) c.index_mut-inbox.ensures.value in
    pairing_at g.W.Out.Outbox.port _ _ _ _ (rw (← c.outboxes.view_is) at c.requires.out_ascend) from p.pairing p.out
    ∙ sym (pairing_at g.W.In.Inbox.port _ _ _ _ (rw (← c.inboxes.view_is) at c.requires.in_ascend) to p.pairing p.inbox)

pub sync-requires-clause-cap : goal.sync-requires-clause-cap
sync-requires-clause-cap g c =
    let p = rw (← c.outboxes.view_is, ← c.inboxes.view_is) at c.requires.paired in
    let from = found g.W.Out.Outbox.port _ _ _ _ _ (rw c.deref.ensures.value at c.place_of-from.ensures.within) (rw c.deref.ensures.value at c.place_of-from.ensures.there) c.index_mut-out.ensures.value in
    ap (λ (q : Pairing). q.cap) (pairing_at g.W.Out.Outbox.port _ _ _ _ (rw (← c.outboxes.view_is) at c.requires.out_ascend) from p.pairing p.out) ∙ p.cap_is

pub returns-clause-out : goal.returns-clause-out
returns-clause-out g c =
    let from = found g.W.Out.Outbox.port _ _ _ _ _ (rw c.deref.ensures.value at c.place_of-from.ensures.within) (rw c.deref.ensures.value at c.place_of-from.ensures.there) c.index_mut-out.ensures.value in
    rw (← c.outboxes.view_is) (met_at g.W.Out.Outbox.port c.outboxes.inside.ports.items c.place_of-from.result c.args.receiver c.index_mut-out.result.now (rw (← c.outboxes.view_is) at c.requires.out_ascend) from c.sync.new.out c.sync.ensures.out)

pub returns-clause-inbox : goal.returns-clause-inbox
returns-clause-inbox g c =
    let to = found g.W.In.Inbox.port _ _ _ _ _ (rw c.deref-2.ensures.value at c.place_of-to.ensures.within) (rw c.deref-2.ensures.value at c.place_of-to.ensures.there) c.index_mut-inbox.ensures.value in
    rw (← c.inboxes.view_is) (met_at g.W.In.Inbox.port c.inboxes.inside.ports.items c.place_of-to.result c.args.sender c.index_mut-inbox.result.now (rw (← c.inboxes.view_is) at c.requires.in_ascend) to c.sync.new.inbox c.sync.ensures.inbox)

pub returns-clause-paired : goal.returns-clause-paired
returns-clause-paired g c =
    let p = rw (← c.outboxes.view_is, ← c.inboxes.view_is) at c.requires.paired in
    let from = found g.W.Out.Outbox.port _ _ _ _ _ (rw c.deref.ensures.value at c.place_of-from.ensures.within) (rw c.deref.ensures.value at c.place_of-from.ensures.there) c.index_mut-out.ensures.value in
    let to = found g.W.In.Inbox.port _ _ _ _ _ (rw c.deref-2.ensures.value at c.place_of-to.ensures.within) (rw c.deref-2.ensures.value at c.place_of-to.ensures.there) c.index_mut-inbox.ensures.value in
    let out_ascend = rw (← c.outboxes.view_is) at c.requires.out_ascend in
    record {
      pairing = (g.W.Out.Outbox.port c.sync.new.out).pairing;
      out = read_set g.W.Out.Outbox.port c.outboxes.inside.ports.items c.place_of-from.result c.args.receiver c.index_mut-out.result.now out_ascend from c.sync.new.out (λ p. Some p.pairing) None;
      inbox =
          read_set g.W.In.Inbox.port c.inboxes.inside.ports.items c.place_of-to.result c.args.sender c.index_mut-inbox.result.now (rw (← c.inboxes.view_is) at c.requires.in_ascend) to c.sync.new.inbox (λ p. Some p.pairing) None
          ∙ ap (λ q. Some q) (sym c.sync.ensures.paired);
      cap_is = c.sync.ensures.out.opening.cap ∙ (ap (λ (q : Pairing). q.cap) (pairing_at g.W.Out.Outbox.port _ _ _ _ out_ascend from p.pairing p.out) ∙ p.cap_is);
    }

pub returns-clause-synced : goal.returns-clause-synced
returns-clause-synced g c =
    let from = found g.W.Out.Outbox.port _ _ _ _ _ (rw c.deref.ensures.value at c.place_of-from.ensures.within) (rw c.deref.ensures.value at c.place_of-from.ensures.there) c.index_mut-out.ensures.value in
    let to = found g.W.In.Inbox.port _ _ _ _ _ (rw c.deref-2.ensures.value at c.place_of-to.ensures.within) (rw c.deref-2.ensures.value at c.place_of-to.ensures.there) c.index_mut-inbox.ensures.value in
    let out_ascend = rw (← c.outboxes.view_is) at c.requires.out_ascend in
    let in_ascend = rw (← c.inboxes.view_is) at c.requires.in_ascend in
    let sent = read_set g.W.Out.Outbox.port c.outboxes.inside.ports.items c.place_of-from.result c.args.receiver c.index_mut-out.result.now out_ascend from c.sync.new.out (λ p. p.messages) [] in
    let free = read_set g.W.Out.Outbox.port c.outboxes.inside.ports.items c.place_of-from.result c.args.receiver c.index_mut-out.result.now out_ascend from c.sync.new.out (λ p. p.known) 0 in
    let taken = read_set g.W.In.Inbox.port c.inboxes.inside.ports.items c.place_of-to.result c.args.sender c.index_mut-inbox.result.now in_ascend to c.sync.new.inbox (λ p. p.messages) [] in
    let known = read_set g.W.In.Inbox.port c.inboxes.inside.ports.items c.place_of-to.result c.args.sender c.index_mut-inbox.result.now in_ascend to c.sync.new.inbox (λ p. p.known) 0 in
    if_ok c.sync.result (λ s. record {
      waiting = s.waiting;
      carried = sent ∙ (s.carried ∙ ap (λ ms. ms ++ s.waiting) (sym taken));
      held = s.held;
      known_are = known ∙ s.known_are;
      free_are = ap (λ n. n + length s.waiting) free ∙ s.free_are;
    }) c.sync.ensures.synced
