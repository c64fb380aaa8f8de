use Rattle.std.proofs.Common.{arith}
use Rattle.std.proofs.lemmas.Int.{ints}
use Rattle.icet_tiles.proofs.area.contains.Goals as goal

pub returns-then-is_among : goal.returns-then-is_among
returns-then-is_among c =
    let across = c.is_among.ensures.0 c.if-is_among.true in
    (λ t. let down = c.is_among-then-is_among.ensures.0 t in record { left = omega (arith, ints); right = omega (arith, ints); top = omega (arith, ints); bottom = omega (arith, ints) }, λ p. c.is_among-then-is_among.ensures.1 (omega (arith, ints, p.top), omega (arith, ints, p.bottom)))
