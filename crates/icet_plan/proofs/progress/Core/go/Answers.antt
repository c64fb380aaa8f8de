use Rattle.icet_plan.proofs.CoreCounts.{sent_on, send_room, took_on, take_room}
use Rattle.icet_plan.proofs.progress.Core.go.Goals.{in-Send, in-Take}
use Rattle.icet_plan.proofs.progress.Core.go.Goals as goal

pub raise-requires-clause-room : goal.raise-requires-clause-room
raise-requires-clause-room c =
    send_room _ _ _ c.self.invariant c.args.rank c.args.exchange.now
    (rw (← c.self.view_is) at c.requires.due) (rw (← c.self.view_is) at c.requires.free) (rw (← c.self.view_is) at c.requires.rank) (rw (← c.self.view_is) at c.requires.peer) (rw (← c.self.view_is) at c.requires.next)

pub raise-requires-in-Take-clause-room : goal.raise-requires-in-Take-clause-room
raise-requires-in-Take-clause-room c =
    take_room _ _ _ c.self.invariant c.args.rank c.args.exchange.now
    (rw (← c.self.view_is) at c.requires.due) (rw (← c.self.view_is) at c.requires.free) (rw (← c.self.view_is) at c.requires.rank) (rw (← c.self.view_is) at c.requires.peer) (rw (← c.self.view_is) at c.requires.next)

pub invariant_of-self : goal.invariant_of-self
invariant_of-self c =
    let is_due = rw (← c.self.view_is) at c.requires.due in
    let free = rw (← c.self.view_is) at c.requires.free in
    let rank = rw (← c.self.view_is) at c.requires.rank in
    let peer = rw (← c.self.view_is) at c.requires.peer in
    elim c.match-exchange.branch [
      | in-Send w ↦ rw (c.count.ensures, w.self-inside-is) (sent_on _ _ _ c.self.invariant c.args.rank c.args.exchange.now is_due free w.in-Send.is w.raise.new.self w.raise.ensures rank peer)
      | in-Take w ↦ rw (c.count.ensures, w.self-inside-is) (took_on _ _ _ c.self.invariant c.args.rank c.args.exchange.now is_due free w.in-Take.is w.raise-in-Take.new.self w.raise-in-Take.ensures rank peer)
    ]
