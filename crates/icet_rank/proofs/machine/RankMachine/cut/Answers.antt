use Rattle.std.proofs.Common.{◌≡◌, rules, arith, length}
use Rattle.icet_rank.proofs.MachineMoves.{cut_fits, named, next_place, cut_done}
use Rattle.icet_rank.proofs.RunsOn.{written}
use Rattle.icet_rank.proofs.machine.RankMachine.cut.Goals as goal

pub cut_slot-requires-clause-slot : goal.cut_slot-requires-clause-slot
cut_slot-requires-clause-slot g c = let l = named c.self.invariant c.self.view_is c.requires.due in rw c.deref_mut.ensures.value l.0

pub cut_slot-requires-clause-into : goal.cut_slot-requires-clause-into
cut_slot-requires-clause-into g c = let l = named c.self.invariant c.self.view_is c.requires.due in rw c.deref_mut.ensures.value l.1

pub cut_slot-requires-clause-fits : goal.cut_slot-requires-clause-fits
cut_slot-requires-clause-fits g c = rw c.deref_mut.ensures.value (cut_fits c.self.invariant c.self.view_is c.requires.due)

pub overflow_add-self : goal.overflow_add-self
overflow_add-self g c = let l = next_place c.self.invariant c.self.view_is c.requires.due in grind (arith, l)

pub invariant_of-self : goal.invariant_of-self
invariant_of-self g c =
    let n : length c.cut_slot.new.slots ≡ c.self.inside.slots.len = search rules in
    let same = rw c.deref_mut.ensures.value at c.in_err-cut_slot.ensures.err in
    rw (written c.self.inside.slots.len c.cut_slot.new.slots c.self.inside.slots.items n, same) c.self.invariant

pub invariant_of-self-2 : goal.invariant_of-self-2
invariant_of-self-2 g c =
    let n : length c.cut_slot.new.slots ≡ c.self.inside.slots.len = search rules in
    let k : length c.cut_slot.new.slots ≡ length c.self.inside.slots.items = search rules in
    let slots = rw c.deref_mut.ensures.value at (c.in_ok-cut_slot.ensures.ok c.self.inside.mode c.self.inside.images) in
    rw (written c.self.inside.slots.len c.cut_slot.new.slots c.self.inside.slots.items n) (cut_done c.self.invariant c.self.view_is c.requires.due c.cut_slot.new.slots slots k)

pub returns-in_err-cut_slot-clause-stays : goal.returns-in_err-cut_slot-clause-stays
returns-in_err-cut_slot-clause-stays g c =
    let n : length c.cut_slot.new.slots ≡ c.self.inside.slots.len = search rules in
    let same = rw c.deref_mut.ensures.value at c.in_err-cut_slot.ensures.err in
    rw (written c.self.inside.slots.len c.cut_slot.new.slots c.self.inside.slots.items n, same, ← c.self.view_is) (search rules)
