use Rattle.std.proofs.Common.{◌≡◌, map, take}
use Rattle.icet_plan.specs.Places.{places}
use Rattle.icet_plan.proofs.plan.places_of.Given as goal

abbrev pub invariant-loop-program : goal.invariant-loop-program
invariant-loop-program l = l.all.items ≡ map places (take l.program-index l.program-items)
