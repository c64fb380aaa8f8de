use Rattle.std.proofs.Common.{◌-◌, length}
use Rattle.icet_model.specs.Wires.{PairMet}
use Rattle.icet_ring.proofs.mem_ports.carry_all.Given as goal

abbrev pub invariant-carrying : goal.invariant-carrying
invariant-carrying l = PairMet l.initial.out l.out l.initial.inbox l.inbox

abbrev pub decreases-carrying : goal.decreases-carrying
decreases-carrying l = length l.out.messages - length l.out.pairing.agreed
