use Rattle.std.proofs.Common.{◌≡◌, rules, arith, length}
use Rattle.icet_rank.proofs.MachineMoves.{join_fits, named, next_place, join_done}
use Rattle.icet_rank.proofs.RunsOn.{written}
use Rattle.icet_rank.proofs.machine.RankMachine.join.Goals as goal

pub joined-requires-clause-front : goal.joined-requires-clause-front
joined-requires-clause-front g c = let l = named c.self.invariant c.self.view_is c.requires.due in rw c.deref.ensures.value l.0

pub joined-requires-clause-back : goal.joined-requires-clause-back
joined-requires-clause-back g c = let l = named c.self.invariant c.self.view_is c.requires.due in rw c.deref.ensures.value l.1

pub joined-requires-clause-fits : goal.joined-requires-clause-fits
joined-requires-clause-fits g c = rw c.deref.ensures.value (join_fits c.self.invariant c.self.view_is c.requires.due)

pub put_joined-requires-clause-front : goal.put_joined-requires-clause-front
put_joined-requires-clause-front g c = let l = named c.self.invariant c.self.view_is c.requires.due in rw c.deref_mut.ensures.value l.0

pub put_joined-requires-clause-back : goal.put_joined-requires-clause-back
put_joined-requires-clause-back g c = let l = named c.self.invariant c.self.view_is c.requires.due in rw c.deref_mut.ensures.value l.1

pub put_joined-requires-clause-into : goal.put_joined-requires-clause-into
put_joined-requires-clause-into g c = let l = named c.self.invariant c.self.view_is c.requires.due in rw c.deref_mut.ensures.value l.2

pub overflow_add-self : goal.overflow_add-self
overflow_add-self g c = let l = next_place c.self.invariant c.self.view_is c.requires.due in grind (arith, l)

pub invariant_of-self : goal.invariant_of-self
invariant_of-self g c =
    let n : length c.put_joined.new.slots ≡ c.self.inside.slots.len = search rules in
    let k : length c.put_joined.new.slots ≡ length c.self.inside.slots.items = search rules in
    let slots = rw c.deref_mut.ensures.value at c.put_joined.ensures.slots in
    let join = rw c.deref.ensures.value at c.in_ok-piece.ensures in
    rw (written c.self.inside.slots.len c.put_joined.new.slots c.self.inside.slots.items n) (join_done c.self.invariant c.self.view_is c.requires.due c.put_joined.new.slots c.in_ok-piece.piece slots k join)
