use Rattle.std.proofs.Common.{◌≡◌, ◌<◌, ◌+◌, ◌-◌, ◌++◌, ◌∷◌, [], ℕ, List, length, take, drop, add-one, sym, ap, ◌∙◌, rules, arith}
use Rattle.std.proofs.lemmas.List.{length-drop, drop-drop}
use Rattle.std.proofs.Math.Seq.{take-add}
use Rattle.icet_ring.proofs.mem_ports.MemInboxInbox.take.Goals as goal

-- the message at the place where the rest begins
record Next {X : Type 0} (at : ℕ) (all : List X) (one : X) (rest : List X) : Type 0 where
  within : at < length all
  front : take (at + 1) all ≡ take at all ++ one ∷ []
  behind : rest ≡ drop (at + 1) all

next : {X : Type 0} (at : ℕ) (all : List X) (one : X) (rest : List X) → drop at all ≡ one ∷ rest → Next at all one rest
next at all one rest e =
    let n : length all - at ≡ length rest + 1 = sym (length-drop at all) ∙ ap length e ∙ sym (add-one (length rest)) in
    record {
      within = omega (arith, n);
      front = take-add at 1 all ∙ ap (λ l. take at all ++ take 1 l) e;
      behind = sym (ap (drop 1) e) ∙ drop-drop 1 at all;
    }

pub overflow_add-self : goal.overflow_add-self
overflow_add-self c =
    let n = next c.self.inside.taken c.self.inside.carried.items _ _ (sym c.self.invariant.ready_are ∙ c.in-Some.ensures.items) in
    grind (arith, n.within)

pub invariant_of-self : goal.invariant_of-self
invariant_of-self c =
    let n = next c.self.inside.taken c.self.inside.carried.items _ _ (sym c.self.invariant.ready_are ∙ c.in-Some.ensures.items) in
    record {
      all = c.self.invariant.all;
      behind = omega (arith, n.within);
      ready_are = n.behind;
      seen_behind = omega (arith, c.self.invariant.seen_behind);
      memory_kept = c.self.invariant.memory_kept;
      queue_kept = rw c.pop_front.ensures.capacity c.self.invariant.queue_kept;
    }

pub invariant_of-self-in-None : goal.invariant_of-self-in-None
invariant_of-self-in-None c =
    let i = c.self.invariant in
    record {
      all = i.all;
      behind = i.behind;
      ready_are = sym c.in-None.ensures.items ∙ i.ready_are;
      seen_behind = i.seen_behind;
      memory_kept = i.memory_kept;
      queue_kept = rw c.pop_front.ensures.capacity i.queue_kept;
    }

pub returns-in-Some-clause-taken : goal.returns-in-Some-clause-taken
returns-in-Some-clause-taken c =
    let n = next c.self.inside.taken c.self.inside.carried.items _ _ (sym c.self.invariant.ready_are ∙ c.in-Some.ensures.items) in
    record {
      messages = n.front ∙ ap (λ v. v.messages ++ c.in-Some.message ∷ []) c.self.view_is;
      room = rw (← c.self.view_is) (omega (arith, n.within, c.self.invariant.all));
      known = rw (← c.self.view_is, c.in-Some.ensures.items) (search rules);
      misses = ap (λ v. v.misses) c.self.view_is;
      pairing = ap (λ v. v.pairing) c.self.view_is;
    }

pub returns-in-None-clause-missed : goal.returns-in-None-clause-missed
returns-in-None-clause-missed c = record {
  known = rw (← c.self.view_is) (search rules);
  misses = rw (← c.self.view_is, c.saturating_add-self-inside.ensures) (search rules);
  messages = ap (λ v. v.messages) c.self.view_is;
  room = ap (λ v. v.room) c.self.view_is;
  pairing = ap (λ v. v.pairing) c.self.view_is;
}
