use Rattle.icet_rank.proofs.PortMoves.{has_peer, peer_there, found, is_room, carried_at, missed_at, carried_keeps, missed_keeps, if_ok, if_err, either_way}
use Rattle.icet_rank.proofs.ports.Outboxes.offer.Goals as goal

pub place_of-at-requires : goal.place_of-at-requires
place_of-at-requires g c =
    let room = rw (← c.self.view_is) at c.requires.room in
    rw c.deref.ensures.value (peer_there g.O.Outbox.port c.args.peer c.self.inside.ports.items (has_peer c.args.peer _ room))

pub offer-requires : goal.offer-requires
offer-requires g c =
    let within = rw c.deref.ensures.value at c.place_of-at.ensures.within in
    let there = rw c.deref.ensures.value at c.place_of-at.ensures.there in
    let ascend = rw (← c.self.view_is) at c.requires.ascend in
    let room = rw (← c.self.view_is) at c.requires.room in
    is_room g.O.Outbox.port c.self.inside.ports.items c.place_of-at.result c.args.peer c.index_mut-port.result.now ascend (found g.O.Outbox.port _ _ _ _ _ within there c.index_mut-port.ensures.value) room

pub returns-clause-sent : goal.returns-clause-sent
returns-clause-sent g c =
    let within = rw c.deref.ensures.value at c.place_of-at.ensures.within in
    let there = rw c.deref.ensures.value at c.place_of-at.ensures.there in
    let ascend = rw (← c.self.view_is) at c.requires.ascend in
    let at = found g.O.Outbox.port _ _ _ _ _ within there c.index_mut-port.ensures.value in
    if_ok c.offer.result (λ s. rw (← c.self.view_is) (carried_at g.O.Outbox.port c.self.inside.ports.items c.place_of-at.result c.args.peer c.index_mut-port.result.now ascend at c.offer.new.self c.args.message s)) c.offer.ensures.sent

pub returns-clause-missed : goal.returns-clause-missed
returns-clause-missed g c =
    let within = rw c.deref.ensures.value at c.place_of-at.ensures.within in
    let there = rw c.deref.ensures.value at c.place_of-at.ensures.there in
    let ascend = rw (← c.self.view_is) at c.requires.ascend in
    let at = found g.O.Outbox.port _ _ _ _ _ within there c.index_mut-port.ensures.value in
    if_err c.offer.result (λ s. rw (← c.self.view_is) (missed_at g.O.Outbox.port c.self.inside.ports.items c.place_of-at.result c.args.peer c.index_mut-port.result.now ascend at c.offer.new.self s)) c.offer.ensures.missed

pub returns-clause-pairings : goal.returns-clause-pairings
returns-clause-pairings g c = either_way c.offer.result (if_ok c.offer.result carried_keeps (returns-clause-sent g c)) (if_err c.offer.result missed_keeps (returns-clause-missed g c))
