use Rattle.std.proofs.Common.{◌≡◌, ◌+◌, ◌-◌, ◌∷◌, [], length, refl, ap, arith}
use Rattle.std.proofs.lemmas.Grind.{common_steps}
use Rattle.std.proofs.lemmas.List.{length-append}
use Rattle.rtrb.specs.Ring.{received, sent}
use Rattle.icet_ring_wires.proofs.Prefixes.{length_prefix_le, same_ring_name}
use Rattle.icet_ring_wires.proofs.ports.RingInboxInbox.take.Goals as goal
use Rattle.icet_ring_wires.proofs.ports.RingInboxInbox.take.Goals.{then-is_ok, else-is_ok}

room : (c : goal.Joined-is_ok) → c.self.inside.opening.total - length (received c.self.inside.messages) ≡ c.self.inside.opening.total - length (received c.pop.new.self) + 1
room c =
    let some = rw (← c.self.view_is) at c.requires in
    omega (arith, some, ap length c.in-Ok.ensures.ok.0, length-append (received c.self.inside.messages) (c.in-Ok.message ∷ []))

pub returns-after-is_ok-clause-taken : goal.returns-after-is_ok-clause-taken
returns-after-is_ok-clause-taken c = elim c.if-is_ok.branch [
  | then-is_ok w ↦ rw (w.self-is, ← c.self.view_is) (record {
    messages = c.in-Ok.ensures.ok.0;
    room = room c;
    known = length_prefix_le _ _ _ c.in-Ok.ensures.ok.1;
    misses = refl;
    pairing = let l : length (sent c.push.new.self) ≡ length (sent c.self.inside.credits) + 1 = grind (arith, common_steps) in
        let s : c.self.inside.told + 1 - length (sent c.push.new.self) ≡ c.self.inside.told - length (sent c.self.inside.credits) = omega (arith, l, c.self.invariant.credited) in
        rw (s, same_ring_name c.self.inside.messages.end c.pop.new.self.end c.pop.ensures.ring.0, same_ring_name c.self.inside.credits.end c.push.new.self.end c.push.ensures.ring.0) refl;
  })
  | else-is_ok w ↦ rw (w.self-is, ← c.self.view_is) (record {
    messages = c.in-Ok.ensures.ok.0;
    room = room c;
    known = length_prefix_le _ _ _ c.in-Ok.ensures.ok.1;
    misses = refl;
    pairing = let l : sent c.push.new.self ≡ sent c.self.inside.credits = grind (arith, common_steps) in
        rw (l, same_ring_name c.self.inside.messages.end c.pop.new.self.end c.pop.ensures.ring.0, same_ring_name c.self.inside.credits.end c.push.new.self.end c.push.ensures.ring.0) refl;
  })
]
