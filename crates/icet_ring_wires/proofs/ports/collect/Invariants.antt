use Rattle.std.proofs.Common.{◌-◌, length}
use Rattle.icet_ring_wires.specs.Rings.{CreditsMet}
use Rattle.rtrb.specs.Ring.{received, sent}
use Rattle.icet_ring_wires.proofs.ports.collect.Given as goal

abbrev pub invariant-popping : goal.invariant-popping
invariant-popping l = CreditsMet l.initial.credits l.credits l.initial.teller l.teller

abbrev pub decreases-popping : goal.decreases-popping
decreases-popping l = length (sent l.teller) - length (received l.credits)
