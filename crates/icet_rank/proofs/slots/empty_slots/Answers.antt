use Rattle.std.proofs.Common.{length, refl, ap, arith}
use Rattle.icet_rank.proofs.slots.empty_slots.Goals as goal

pub loop-made-init : goal.loop-made-init
loop-made-init c = record { count = ap length c.in_ok-slots.ensures.items; empty = rw c.in_ok-slots.ensures.items (λ k. refl) }

pub returns-clause-count : goal.returns-clause-count
returns-clause-count c = let i = c.loop-made.invariant.count in let e = c.loop-made.auto._made-end in omega (arith, i, e, c.loop-made-test.false)

pub returns-clause-empty : goal.returns-clause-empty
returns-clause-empty c = c.loop-made.invariant.empty
