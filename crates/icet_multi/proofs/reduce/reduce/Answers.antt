use Rattle.std.proofs.Common.{arith}
use Rattle.icet_multi.proofs.ReducePrograms.{have_groups, is_plan, legs_have_seats, plan_by_rule, plan_ranks}
use Rattle.icet_multi.proofs.reduce.reduce.Goals as goal

pub legs_of-requires-clause-groups : goal.legs_of-requires-clause-groups
legs_of-requires-clause-groups c = have_groups c.args.single c.args.k c.args.order.now c.args.tiles.now c.requires.tiles c.requires.shown _ c.in_ok-groups.ensures

pub programs_of-requires-clause-groups : goal.programs_of-requires-clause-groups
programs_of-requires-clause-groups c = have_groups c.args.single c.args.k c.args.order.now c.args.tiles.now c.requires.tiles c.requires.shown _ c.in_ok-groups.ensures

pub programs_of-requires-clause-seats : goal.programs_of-requires-clause-seats
programs_of-requires-clause-seats c = legs_have_seats c.args.single c.args.k c.args.order.now c.args.tiles.now c.requires.tiles c.requires.shown _ c.in_ok-groups.ensures c.in_ok-legs.legs.items c.in_ok-legs.ensures _ c.deref.ensures.value

pub make-requires-clause-ranks : goal.make-requires-clause-ranks
make-requires-clause-ranks c =
    let n = plan_ranks c.args.single c.args.k c.args.order.now c.args.tiles.now c.requires.tiles c.requires.shown _ c.in_ok-groups.ensures c.in_ok-legs.legs.items c.in_ok-legs.ensures _ c.deref.ensures.value _ _ _ _ c.in_ok-programs.ensures c.in_ok-sizes.ensures c.in_ok-displays.ensures c.in_ok-brackets.ensures in
    omega (arith, n, c.requires.low)

pub make-requires-clause-plan : goal.make-requires-clause-plan
make-requires-clause-plan c = is_plan c.args.single c.args.k c.args.order.now c.args.tiles.now c.requires.tiles c.requires.shown _ c.in_ok-groups.ensures c.in_ok-legs.legs.items c.in_ok-legs.ensures _ c.deref.ensures.value _ _ _ _ c.in_ok-programs.ensures c.in_ok-sizes.ensures c.in_ok-displays.ensures c.in_ok-brackets.ensures

pub returns : goal.returns
returns c = plan_by_rule c.args.single c.args.k c.args.order.now c.args.tiles.now c.requires.tiles c.requires.shown _ c.in_ok-groups.ensures c.in_ok-legs.legs.items c.in_ok-legs.ensures _ c.deref.ensures.value _ _ _ _ c.in_ok-programs.ensures c.in_ok-sizes.ensures c.in_ok-displays.ensures c.in_ok-brackets.ensures c.make.result c.make.ensures
