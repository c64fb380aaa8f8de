use Rattle.std.proofs.Common.{◌≡◌}
use Rattle.icet_net.specs.Drives.{DrivesOn, left_of}
use Rattle.icet_net.proofs.driving.drive.Given as goal

abbrev pub invariant-driving : goal.invariant-driving
invariant-driving g l = DrivesOn l.hull l.initial.ranks l.ranks × (g.W.Wires.owed l.wires ≡ g.W.Wires.owed l.initial.wires) × (g.W.Wires.log l.wires ≡ g.W.Wires.log l.initial.wires)

abbrev pub decreases-driving : goal.decreases-driving
decreases-driving g l = left_of l.ranks
