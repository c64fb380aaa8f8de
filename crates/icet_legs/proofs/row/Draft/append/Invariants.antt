use Rattle.std.proofs.Common.{◌≡◌, ◌++◌, ◌∷◌, take}
use Rattle.icet_model.specs.declared.exchange.Op.TheVariants.{Load}
use Rattle.icet_legs.proofs.row.Draft.append.Given as goal

abbrev pub invariant-loop-i : goal.invariant-loop-i
invariant-loop-i l = l.self-inside.ops.items ≡ l.fn.self ++ Load l.fn.tile 0 ∷ take l.i l.fn.program
