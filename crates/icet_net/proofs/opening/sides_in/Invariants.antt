use Rattle.std.proofs.Common.{◌≡◌, take, map}
use Rattle.icet_net.specs.Opening.{sides_of}
use Rattle.icet_net.proofs.opening.sides_in.Given as goal

abbrev pub invariant-sizing : goal.invariant-sizing
invariant-sizing l = l.sides.items ≡ map sides_of (take l.t l.layout)
