use Rattle.std.proofs.Common.{◌≡◌, take}
use Rattle.icet_plan.specs.Places.{places}
use Rattle.icet_plan.proofs.program.Program.places.Given as goal

abbrev pub invariant-loop-place : goal.invariant-loop-place
invariant-loop-place l = l.all.items ≡ places (take l.place l.self)
