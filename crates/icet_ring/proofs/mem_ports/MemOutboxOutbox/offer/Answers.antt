use Rattle.std.proofs.Common.{◌≡◌, ◌<◌, ◌+◌, ◌++◌, ◌∷◌, [], length, sym, ap, ◌∙◌, rules, arith}
use Rattle.std.proofs.lemmas.List.{length-append, take-append-le}
use Rattle.icet_ring.proofs.mem_ports.MemOutboxOutbox.offer.Goals as goal

-- the message finds a place among all that the port can carry
room : (c : goal.After-push_reserved) → length c.self.inside.sent.items < c.self.inside.opening.total
room c = let l = rw (← c.self.view_is) at c.requires in omega (arith, l)

longer : (c : goal.After-push_reserved) → length c.push_reserved.new.self.items ≡ length c.self.inside.sent.items + 1
longer c = ap length c.push_reserved.ensures.items ∙ length-append c.self.inside.sent.items (c.args.message ∷ [])

filled : (c : goal.After-push_reserved) → length c.self.inside.sent.items < c.self.inside.seen + c.self.inside.opening.cap
filled c = let n : c.len.result ≡ length c.self.inside.sent.items = search rules in omega (arith, n, c.if-len-self.true)

pub invariant_of-self : goal.invariant_of-self
invariant_of-self c =
    let i = c.self.invariant in
    record {
      all = omega (arith, room c, longer c);
      waiting = omega (arith, filled c, longer c);
      behind = omega (arith, i.behind, longer c);
      seen_behind = i.seen_behind;
      memory_kept = rw c.push_reserved.ensures.capacity i.memory_kept;
    }

pub returns-then-len-self-clause-sent : goal.returns-then-len-self-clause-sent
returns-then-len-self-clause-sent c = record {
  messages = c.push_reserved.ensures.items ∙ ap (λ v. v.messages ++ c.args.message ∷ []) c.self.view_is;
  room = sym (ap (λ v. v.room) c.self.view_is) ∙ omega (arith, room c, longer c);
  known = rw (← c.self.view_is) (omega (arith, longer c));
  misses = ap (λ v. v.misses) c.self.view_is;
  pairing = rw (c.push_reserved.ensures.items, take-append-le c.self.inside.carried c.self.inside.sent.items (c.args.message ∷ []) c.self.invariant.behind) (ap (λ v. v.pairing) c.self.view_is);
}

pub invariant_of-self-else-len-self : goal.invariant_of-self-else-len-self
invariant_of-self-else-len-self c = c.self.invariant

pub returns-else-len-self-clause-missed : goal.returns-else-len-self-clause-missed
returns-else-len-self-clause-missed c = record {
  known = let n : c.len.result ≡ length c.self.inside.sent.items = search rules in rw (← c.self.view_is) (omega (arith, n, c.if-len-self.false));
  misses = rw (← c.self.view_is, c.saturating_add-self-inside.ensures) (search rules);
  messages = ap (λ v. v.messages) c.self.view_is;
  room = ap (λ v. v.room) c.self.view_is;
  pairing = ap (λ v. v.pairing) c.self.view_is;
}
