use Rattle.std.proofs.Common.{◌≡◌, ◌≤◌, ◌+◌, length, refl, sym, ap, ◌∙◌, arith}
use Rattle.std.proofs.lemmas.List.{length-append}
use Rattle.rtrb.specs.Ring.{received, known_items}
use Rattle.icet_ring_wires.proofs.ports.meet.Goals as goal

-- the messages in the ring are those behind the taken ones
in_ring : (c : goal.After-inbox-1) → c.out.inside.count ≡ c.inbox.inside.count + length (known_items c.slots_beside.new.self)
in_ring c =
    c.out.invariant.counted
    ∙ sym (ap length c.slots_beside.ensures.producer.1)
    ∙ sym (ap length c.slots_beside.ensures.fifo)
    ∙ length-append (received c.slots_beside.new.self) (known_items c.slots_beside.new.self)
    ∙ ap (λ n. n + length (known_items c.slots_beside.new.self)) (ap length c.slots_beside.ensures.looked.1 ∙ sym c.inbox.invariant.counted)

-- every credit was popped, and none was pushed in the meeting
all_credited : (c : goal.After-inbox-1) → length (received c.collect.new.credits) ≤ c.inbox.inside.told
all_credited c = rw (c.collect.ensures.all, c.collect.ensures.met.teller.1) c.inbox.invariant.credited

-- what the outbox knew to be taken was taken, since the ports are paired
seen_taken : (c : goal.After-inbox-1) → c.out.inside.seen ≤ c.inbox.inside.count
seen_taken c =
    let p = rw (← c.out.view_is, ← c.inbox.view_is) at c.requires.paired in
    let lead = ap (λ q. q.seen) p in
    let last = c.collect.ensures.all ∙ ap length c.collect.ensures.met.teller.1 in
    omega (arith, lead, last, c.collect.ensures.met.popped, c.out.invariant.credited, c.inbox.invariant.credited, c.inbox.invariant.told_behind)

pub invariant_of-out : goal.invariant_of-out
invariant_of-out c = record {
  counted = rw c.slots_beside.ensures.producer.1 c.out.invariant.counted;
  within = c.out.invariant.within;
  free_kept = omega (arith, c.out.invariant.free_kept, c.slots_beside.ensures.producer.2);
  held = omega (arith, c.out.invariant.held, seen_taken c);
  credited = omega (arith, all_credited c, c.inbox.invariant.told_behind);
  seen_behind = omega (arith, in_ring c);
}

pub returns-clause-synced : goal.returns-clause-synced
returns-clause-synced c =
    let n = c.out.invariant.counted ∙ sym (ap length c.slots_beside.ensures.producer.1) in
    record {
      waiting = known_items c.slots_beside.new.self;
      carried = sym c.slots_beside.ensures.fifo;
      held = omega (arith, in_ring c, c.out.invariant.held, seen_taken c);
      known_are = refl;
      free_are = omega (arith, n, in_ring c, c.out.invariant.held, seen_taken c);
    }
