use Rattle.std.proofs.Common.{refl, ◌≡◌, ◌∙◌, rules, arith, length}
use Rattle.icet_rank.proofs.MachineMoves.{named, next_place, next_counter, due_exchange, send_filled, send_filled_seen, send_room, send_done, send_waits}
use Rattle.icet_rank.proofs.RunsOn.{written}
use Rattle.icet_rank.proofs.machine.RankMachine.send_due.Goals as goal

pub send-moved-requires-clause-slot : goal.send-moved-requires-clause-slot
send-moved-requires-clause-slot g c κs within = rw c.deref_mut.ensures.value (named c.self.invariant c.self.view_is c.requires.due)

pub send-moved-requires-clause-filled : goal.send-moved-requires-clause-filled
send-moved-requires-clause-filled g c κs within = rw c.deref_mut.ensures.value (send_filled c.self.invariant c.self.view_is c.requires.due c.requires.kind)

pub send-moved-requires-clause-ascend : goal.send-moved-requires-clause-ascend
send-moved-requires-clause-ascend g c κs within = c.self.invariant.runs.out_ascend

pub send-moved-requires-clause-room : goal.send-moved-requires-clause-room
send-moved-requires-clause-room g c κs within = send_room c.self.invariant c.self.view_is c.requires.due c.requires.kind

pub overflow_add-self : goal.overflow_add-self
overflow_add-self g c = let l = next_place c.self.invariant c.self.view_is c.requires.due in grind (arith, l)

pub overflow_add-self-then-moved : goal.overflow_add-self-then-moved
overflow_add-self-then-moved g c = let l = next_counter c.self.invariant c.self.view_is c.requires.due in grind (arith, l)

pub invariant_of-self : goal.invariant_of-self
invariant_of-self g c =
    let s : length c.send-moved.new.slots ≡ c.self.inside.slots.len = search rules in
    let l : length c.send-moved.new.slots ≡ length c.self.inside.slots.items = search rules in
    let sent = rw c.deref_mut.ensures.value at (c.send-moved.ensures.sent c.if-moved.true) in
    let slots = rw c.deref_mut.ensures.value at (c.send-moved.ensures.slots c.if-moved.true) in
    rw (written c.self.inside.slots.len c.send-moved.new.slots c.self.inside.slots.items s)
    (send_done c.self.invariant c.self.view_is c.requires.due c.requires.kind c.send-moved.new.slots c.send-moved.new.outboxes slots l sent)

pub invariant_of-self-else-moved : goal.invariant_of-self-else-moved
invariant_of-self-else-moved g c =
    let s : length c.send-moved.new.slots ≡ c.self.inside.slots.len = search rules in
    let missed = c.send-moved.ensures.missed c.if-moved.false in
    rw (written c.self.inside.slots.len c.send-moved.new.slots c.self.inside.slots.items s)
    (send_waits c.self.invariant c.send-moved.new.slots c.send-moved.new.outboxes (c.send-moved.ensures.back c.if-moved.false ∙ c.deref_mut.ensures.value) missed)

pub returns-then-moved-clause-moved : goal.returns-then-moved-clause-moved
returns-then-moved-clause-moved g c =
    let sent = rw c.deref_mut.ensures.value at (c.send-moved.ensures.sent c.if-moved.true) in
    rw (← c.self.view_is) (λ _ x full. sent x full)

pub returns-then-moved-clause-due : goal.returns-then-moved-clause-due
returns-then-moved-clause-due g c = due_exchange c.self.invariant c.self.view_is c.requires.due

pub returns-else-moved-clause-due : goal.returns-else-moved-clause-due
returns-else-moved-clause-due g c = due_exchange c.self.invariant c.self.view_is c.requires.due

pub returns-then-moved-clause-filled : goal.returns-then-moved-clause-filled
returns-then-moved-clause-filled g c = send_filled_seen c.self.invariant c.self.view_is c.requires.due c.requires.kind

pub returns-else-moved-clause-filled : goal.returns-else-moved-clause-filled
returns-else-moved-clause-filled g c = send_filled_seen c.self.invariant c.self.view_is c.requires.due c.requires.kind

pub returns-then-moved-clause-pairings : goal.returns-then-moved-clause-pairings
returns-then-moved-clause-pairings g c =
    let kept = c.send-moved.ensures.pairings in
    rw (← c.self.view_is) (record { inboxes = record { same_peers = refl; same_pairings = refl }; outboxes = kept })

pub returns-else-moved-clause-pairings : goal.returns-else-moved-clause-pairings
returns-else-moved-clause-pairings g c =
    let kept = c.send-moved.ensures.pairings in
    rw (← c.self.view_is) (record { inboxes = record { same_peers = refl; same_pairings = refl }; outboxes = kept })

pub returns-else-moved-clause-missed : goal.returns-else-moved-clause-missed
returns-else-moved-clause-missed g c =
    let missed = c.send-moved.ensures.missed c.if-moved.false in
    rw (← c.self.view_is) (λ _. missed)

pub returns-else-moved-clause-same_slots : goal.returns-else-moved-clause-same_slots
returns-else-moved-clause-same_slots g c =
    let s : length c.send-moved.new.slots ≡ c.self.inside.slots.len = search rules in
    let same = c.send-moved.ensures.back c.if-moved.false ∙ c.deref_mut.ensures.value in
    rw (written c.self.inside.slots.len c.send-moved.new.slots c.self.inside.slots.items s, ← c.self.view_is) (λ _. same)

pub returns-then-moved-clause-job : goal.returns-then-moved-clause-job
returns-then-moved-clause-job g c = rw (← c.self.view_is) (record { number = refl; mode = refl; ops = refl; images = refl })

pub returns-else-moved-clause-job : goal.returns-else-moved-clause-job
returns-else-moved-clause-job g c = rw (← c.self.view_is) (record { number = refl; mode = refl; ops = refl; images = refl })

pub returns-then-moved-clause-inboxes : goal.returns-then-moved-clause-inboxes
returns-then-moved-clause-inboxes g c = rw (← c.self.view_is) refl

pub returns-else-moved-clause-inboxes : goal.returns-else-moved-clause-inboxes
returns-else-moved-clause-inboxes g c = rw (← c.self.view_is) refl

pub returns-else-moved-clause-same_place : goal.returns-else-moved-clause-same_place
returns-else-moved-clause-same_place g c = λ _. rw (← c.self.view_is) refl

pub returns-else-moved-clause-same_counter : goal.returns-else-moved-clause-same_counter
returns-else-moved-clause-same_counter g c = λ _. rw (← c.self.view_is) refl

pub returns-then-moved-clause-place : goal.returns-then-moved-clause-place
returns-then-moved-clause-place g c = λ _. rw (← c.self.view_is) refl

pub returns-then-moved-clause-counter : goal.returns-then-moved-clause-counter
returns-then-moved-clause-counter g c = λ _. rw (← c.self.view_is) refl
