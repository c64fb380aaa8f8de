use Rattle.std.proofs.Common.{arith}
use Rattle.icet_multi.proofs.Growing.{ranks_low, seat_more, seats_grown}
use Rattle.icet_multi.proofs.legs.push_leg.Goals as goal

pub append-requires : goal.append-requires
append-requires c = ranks_low _ c.args.group.now c.loop-p.p _ _ c.requires.seats.within c.loop-p-test.true c.index-group-p.is c.loop-p.invariant.same

pub loop-p-preserved : goal.loop-p-preserved
loop-p-preserved c =
    seat_more c.args.group.now c.args.programs.now c.loop-p.p _ _ _ _ _ c.loop-p-test.true c.index-group-p.is
    (let l = c.loop-p-test.true in let e = c.requires.seats.each in omega (arith, l, e)) c.index-programs-p.is c.loop-p.invariant
    (ranks_low _ c.args.group.now c.loop-p.p _ _ c.requires.seats.within c.loop-p-test.true c.index-group-p.is c.loop-p.invariant.same)
    c.in_ok-append.ensures

pub returns : goal.returns
returns c = seats_grown _ c.args.group.now c.args.programs.now c.loop-p.p _ _ c.requires.seats c.loop-p-test.false c.loop-p.invariant
