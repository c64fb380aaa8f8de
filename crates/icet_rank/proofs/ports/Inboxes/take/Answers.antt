use Rattle.icet_rank.proofs.PortMoves.{has_peer, peer_there, found, is_room, carried_at, missed_at, carried_keeps, missed_keeps, if_some, if_none, some_or_none}
use Rattle.icet_rank.proofs.ports.Inboxes.take.Goals as goal

pub place_of-at-requires : goal.place_of-at-requires
place_of-at-requires g c =
    let room = rw (← c.self.view_is) at c.requires.room in
    rw c.deref.ensures.value (peer_there g.I.Inbox.port c.args.peer c.self.inside.ports.items (has_peer c.args.peer _ room))

pub take-requires : goal.take-requires
take-requires g c =
    let within = rw c.deref.ensures.value at c.place_of-at.ensures.within in
    let there = rw c.deref.ensures.value at c.place_of-at.ensures.there in
    let ascend = rw (← c.self.view_is) at c.requires.ascend in
    let room = rw (← c.self.view_is) at c.requires.room in
    is_room g.I.Inbox.port c.self.inside.ports.items c.place_of-at.result c.args.peer c.index_mut-port.result.now ascend (found g.I.Inbox.port _ _ _ _ _ within there c.index_mut-port.ensures.value) room

pub returns-clause-taken : goal.returns-clause-taken
returns-clause-taken g c =
    let within = rw c.deref.ensures.value at c.place_of-at.ensures.within in
    let there = rw c.deref.ensures.value at c.place_of-at.ensures.there in
    let ascend = rw (← c.self.view_is) at c.requires.ascend in
    let at = found g.I.Inbox.port _ _ _ _ _ within there c.index_mut-port.ensures.value in
    if_some c.take.result (λ m s. rw (← c.self.view_is) (carried_at g.I.Inbox.port c.self.inside.ports.items c.place_of-at.result c.args.peer c.index_mut-port.result.now ascend at c.take.new.self m s)) c.take.ensures.taken

pub returns-clause-missed : goal.returns-clause-missed
returns-clause-missed g c =
    let within = rw c.deref.ensures.value at c.place_of-at.ensures.within in
    let there = rw c.deref.ensures.value at c.place_of-at.ensures.there in
    let ascend = rw (← c.self.view_is) at c.requires.ascend in
    let at = found g.I.Inbox.port _ _ _ _ _ within there c.index_mut-port.ensures.value in
    if_none c.take.result (λ s. rw (← c.self.view_is) (missed_at g.I.Inbox.port c.self.inside.ports.items c.place_of-at.result c.args.peer c.index_mut-port.result.now ascend at c.take.new.self s)) c.take.ensures.missed

pub returns-clause-pairings : goal.returns-clause-pairings
returns-clause-pairings g c = some_or_none c.take.result (λ m s. carried_keeps s) (returns-clause-taken g c) (if_none c.take.result missed_keeps (returns-clause-missed g c))
