use Rattle.std.proofs.Common.{◌≡◌, ℕ, ◌<◌, ◌+◌, ◌++◌, ◌∷◌, [], List, length, take, drop, refl, sym, ap, ◌∙◌, arith}
use Rattle.std.proofs.lemmas.List.{length-append, length-take, length-take-le, take-append-le, drop-append-le, take_more}
use Rattle.icet_model.specs.Wires.{PortView, PortMet}
use Rattle.icet_ring.specs.Mem.{outbox_view, inbox_view}
use Rattle.icet_ring.proofs.mem_ports.carry.Goals as goal

-- a list is longer than a front that is not all of it
longer : {X : Type 0} (n : ℕ) (xs : List X) → length (take n xs) < length xs → n < length xs
longer n xs l = grind (arith, l, length-take n xs)

more : (c : goal.After-out-1) → c.out.inside.carried < length c.out.inside.sent.items
more c = longer _ _ (rw (← c.out.view_is) at c.requires.more)

pair : (c : goal.After-out-1) →
    let o = c.out.inside in
    let n = c.inbox.inside in
    (outbox_view o.opening.from o.opening.to o.opening.cap o.opening.total o.sent.items o.carried o.seen o.misses).pairing
    ≡ (inbox_view n.opening.from n.opening.to n.opening.cap n.opening.total n.carried.items n.ready.items n.taken n.seen n.misses).pairing
pair c = rw (← c.out.view_is, ← c.inbox.view_is) at c.requires.paired

-- a port that nothing happened to
unmoved : (p : PortView) → PortMet p p
unmoved p = record { messages = refl; room = refl; misses = refl; opening = record { from = refl; to = refl; cap = refl; total = refl; rings = refl } }

-- the inbox has so many as were carried
count : (c : goal.After-out-1) → length c.inbox.inside.carried.items ≡ c.out.inside.carried
count c = sym (ap (λ p. length p.agreed) (pair c)) ∙ length-take-le c.out.inside.carried c.out.inside.sent.items c.out.invariant.behind

one_more : (c : goal.After-out-1) → take (c.out.inside.carried + 1) c.out.inside.sent.items ≡ take c.out.inside.carried c.out.inside.sent.items ++ c.in_ok-kept.kept ∷ []
one_more c =
    let o = c.out.inside in
    take_more o.sent.items o.carried c.index-message.result.now (more c)
    ∙ ap (λ m. take o.carried o.sent.items ++ m ∷ []) (sym c.index-message.ensures ∙ sym c.in_ok-kept.ensures)

pub returns-in_err-kept-clause-goes_on : goal.returns-in_err-kept-clause-goes_on
returns-in_err-kept-clause-goes_on c = record { paired = c.requires.paired; out = unmoved _; inbox = unmoved _ }

pub returns-in_err-waiting-clause-goes_on : goal.returns-in_err-waiting-clause-goes_on
returns-in_err-waiting-clause-goes_on c = record { paired = c.requires.paired; out = unmoved _; inbox = unmoved _ }

pub invariant_of-out : goal.invariant_of-out
invariant_of-out c =
    let i = c.out.invariant in
    record {
      all = i.all;
      waiting = i.waiting;
      behind = omega (arith, more c);
      seen_behind = omega (arith, i.seen_behind);
      memory_kept = i.memory_kept;
    }

pub invariant_of-inbox : goal.invariant_of-inbox
invariant_of-inbox c =
    let i = c.inbox.invariant in
    let n : length c.push_reserved.new.self.items ≡ c.out.inside.carried + 1 = ap length c.push_reserved.ensures.items ∙ length-append c.inbox.inside.carried.items (c.in_ok-kept.kept ∷ []) ∙ ap (λ k. k + 1) (count c) in
    record {
      all = omega (arith, n, more c, c.out.invariant.all, ap (λ p. p.total) (pair c));
      behind = omega (arith, n, count c, i.behind);
      ready_are =
          rw (c.push_back_reserved.ensures.items, c.push_reserved.ensures.items, drop-append-le c.inbox.inside.taken c.inbox.inside.carried.items (c.in_ok-kept.kept ∷ []) i.behind, i.ready_are)
          (ap (λ m. drop c.inbox.inside.taken c.inbox.inside.carried.items ++ m ∷ []) (c.in_ok-waiting.ensures ∙ sym c.in_ok-kept.ensures));
      seen_behind = i.seen_behind;
      memory_kept = rw c.push_reserved.ensures.capacity i.memory_kept;
      queue_kept = rw c.push_back_reserved.ensures.capacity i.queue_kept;
    }

pub returns-clause-goes_on : goal.returns-clause-goes_on
returns-clause-goes_on c = record {
  paired = rw (one_more c, c.push_reserved.ensures.items) (ap (λ p. record { from = p.from; to = p.to; cap = p.cap; total = p.total; agreed = p.agreed ++ c.in_ok-kept.kept ∷ []; seen = p.seen; rings = p.rings }) (pair c));
  out = record {
    messages = ap (λ v. v.messages) c.out.view_is;
    room = ap (λ v. v.room) c.out.view_is;
    misses = ap (λ v. v.misses) c.out.view_is;
    opening = record {
      from = ap (λ v. v.pairing.from) c.out.view_is;
      to = ap (λ v. v.pairing.to) c.out.view_is;
      cap = ap (λ v. v.pairing.cap) c.out.view_is;
      total = ap (λ v. v.pairing.total) c.out.view_is;
      rings = ap (λ v. v.pairing.rings) c.out.view_is;
    };
  };
  inbox = record {
    messages =
        rw (c.push_reserved.ensures.items, take-append-le c.inbox.inside.taken c.inbox.inside.carried.items (c.in_ok-kept.kept ∷ []) c.inbox.invariant.behind)
        (ap (λ v. v.messages) c.inbox.view_is);
    room = ap (λ v. v.room) c.inbox.view_is;
    misses = ap (λ v. v.misses) c.inbox.view_is;
    opening = record {
      from = ap (λ v. v.pairing.from) c.inbox.view_is;
      to = ap (λ v. v.pairing.to) c.inbox.view_is;
      cap = ap (λ v. v.pairing.cap) c.inbox.view_is;
      total = ap (λ v. v.pairing.total) c.inbox.view_is;
      rings = ap (λ v. v.pairing.rings) c.inbox.view_is;
    };
  };
}

pub returns-clause-one : goal.returns-clause-one
returns-clause-one c = rw (← c.out.view_is) (grind (arith, more c, length-take (c.out.inside.carried + 1) c.out.inside.sent.items, length-take c.out.inside.carried c.out.inside.sent.items))
