use Rattle.std.proofs.Common.{arith}
use Rattle.icet_multi.specs.Reduced.{programs_in}
use Rattle.icet_multi.proofs.Growing.{leg_grown, programs_found, programs_long, seats_at}
use Rattle.icet_multi.proofs.legs.push_legs.Goals as goal

pub list-requires : goal.list-requires
list-requires c = let e = c.requires.seats.each in let n = programs_long c.args.legs.now in let l = c.loop-t-test.true in omega (arith, e, n, l)

pub push_leg-requires : goal.push_leg-requires
push_leg-requires c = record { seats = seats_at _ _ c.args.groups.now (programs_in c.args.legs.now) c.loop-t.t _ _ c.requires.seats (let n = programs_long c.args.legs.now in let l = c.loop-t-test.true in omega (arith, n, l)) c.list.ensures (programs_found c.args.legs.now c.loop-t.t _ _ c.loop-t-test.true c.deref.ensures.value c.index-legs-t.is) c.loop-t.invariant.same }

pub loop-t-preserved : goal.loop-t-preserved
loop-t-preserved c = leg_grown c.args.groups.now (programs_in c.args.legs.now) c.loop-t.t _ _ _ _ _ c.list.ensures (programs_found c.args.legs.now c.loop-t.t _ _ c.loop-t-test.true c.deref.ensures.value c.index-legs-t.is) c.loop-t.invariant c.in_ok-push_leg.ensures
