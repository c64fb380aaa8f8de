use Rattle.std.proofs.Common.{refl, ◌<◌, arith, length}
use Rattle.icet_rank.proofs.MachineMoves.{named, next_place, next_counter, due_exchange, take_room, take_range, take_done, take_waits}
use Rattle.icet_rank.proofs.machine.RankMachine.take_due.Goals as goal

pub take-requires-clause-ascend : goal.take-requires-clause-ascend
take-requires-clause-ascend g c κs within = c.self.invariant.runs.in_ascend

pub take-requires-clause-room : goal.take-requires-clause-room
take-requires-clause-room g c κs within = take_room c.self.invariant c.self.view_is c.requires.due c.requires.kind

pub invariant_of-self : goal.invariant_of-self
invariant_of-self g c =
    let missed = rw c.in-None.is at c.take.ensures.missed in
    take_waits c.self.invariant c.take.new.self missed

pub fitting-requires : goal.fitting-requires
fitting-requires g c = take_range c.self.invariant c.self.view_is c.requires.due c.requires.kind

pub index_mut-requires : goal.index_mut-requires
index_mut-requires g c =
    let l : c.args.slot < length c.self.inside.slots.items = named c.self.invariant c.self.view_is c.requires.due in
    grind (arith, l)

pub overflow_add-self : goal.overflow_add-self
overflow_add-self g c = let l = next_place c.self.invariant c.self.view_is c.requires.due in grind (arith, l)

pub overflow_add-self-in-Some : goal.overflow_add-self-in-Some
overflow_add-self-in-Some g c = let l = next_counter c.self.invariant c.self.view_is c.requires.due in grind (arith, l)

pub invariant_of-self-in-Some : goal.invariant_of-self-in-Some
invariant_of-self-in-Some g c =
    let some = rw c.in-Some.is at c.take.ensures.taken in
    take_done c.self.invariant c.self.view_is c.requires.due c.requires.kind c.take.new.self c.in-Some.message c.fitting.result (c.fitting.ensures c.self.inside.mode c.self.inside.images) some

pub returns-in-None-clause-due : goal.returns-in-None-clause-due
returns-in-None-clause-due g c = due_exchange c.self.invariant c.self.view_is c.requires.due

pub returns-in-Some-clause-due : goal.returns-in-Some-clause-due
returns-in-Some-clause-due g c = due_exchange c.self.invariant c.self.view_is c.requires.due

pub returns-in-None-clause-pairings : goal.returns-in-None-clause-pairings
returns-in-None-clause-pairings g c =
    let kept = c.take.ensures.pairings in
    rw (← c.self.view_is) (record { inboxes = kept; outboxes = record { same_peers = refl; same_pairings = refl } })

pub returns-in-Some-clause-pairings : goal.returns-in-Some-clause-pairings
returns-in-Some-clause-pairings g c =
    let kept = c.take.ensures.pairings in
    rw (← c.self.view_is) (record { inboxes = kept; outboxes = record { same_peers = refl; same_pairings = refl } })

pub returns-in-None-clause-missed : goal.returns-in-None-clause-missed
returns-in-None-clause-missed g c =
    let missed = rw c.in-None.is at c.take.ensures.missed in
    rw (← c.self.view_is) (λ _. missed)

pub returns-in-Some-clause-moved : goal.returns-in-Some-clause-moved
returns-in-Some-clause-moved g c =
    let some = rw c.in-Some.is at c.take.ensures.taken in
    rw (← c.self.view_is) (λ _. record { message = c.in-Some.message; carried = some })

pub returns-in-None-clause-job : goal.returns-in-None-clause-job
returns-in-None-clause-job g c = rw (← c.self.view_is) (record { number = refl; mode = refl; ops = refl; images = refl })

pub returns-in-Some-clause-job : goal.returns-in-Some-clause-job
returns-in-Some-clause-job g c = rw (← c.self.view_is) (record { number = refl; mode = refl; ops = refl; images = refl })

pub returns-in-None-clause-outboxes : goal.returns-in-None-clause-outboxes
returns-in-None-clause-outboxes g c = rw (← c.self.view_is) refl

pub returns-in-Some-clause-outboxes : goal.returns-in-Some-clause-outboxes
returns-in-Some-clause-outboxes g c = rw (← c.self.view_is) refl

pub returns-in-None-clause-same_place : goal.returns-in-None-clause-same_place
returns-in-None-clause-same_place g c = λ _. rw (← c.self.view_is) refl

pub returns-in-None-clause-same_counter : goal.returns-in-None-clause-same_counter
returns-in-None-clause-same_counter g c = λ _. rw (← c.self.view_is) refl

pub returns-in-None-clause-same_slots : goal.returns-in-None-clause-same_slots
returns-in-None-clause-same_slots g c = λ _. rw (← c.self.view_is) refl

pub returns-in-Some-clause-place : goal.returns-in-Some-clause-place
returns-in-Some-clause-place g c = λ _. rw (← c.self.view_is) refl

pub returns-in-Some-clause-counter : goal.returns-in-Some-clause-counter
returns-in-Some-clause-counter g c = λ _. rw (← c.self.view_is) refl
