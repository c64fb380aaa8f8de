use Rattle.std.proofs.Common.{◌≡◌, ◌+◌}
use Rattle.icet_ring_wires.proofs.tests.answers.Given as goal

-- the ports are still those of the pair, which carries two messages
abbrev pub invariant-calling : goal.invariant-calling
invariant-calling g l =
    let out = g.W.Out.Outbox.port l.out in
    let inbox = g.W.In.Inbox.port l.inbox in
    (out.room + l.sent ≡ 2) × (inbox.room + l.taken ≡ 2) × (out.pairing ≡ inbox.pairing) × (out.pairing.cap ≡ 1)
