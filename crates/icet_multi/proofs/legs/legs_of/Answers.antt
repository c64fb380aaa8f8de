use Rattle.std.proofs.Common.{arith, refl}
use Rattle.icet_multi.specs.Rules.{strategy_of}
use Rattle.icet_multi.proofs.GroupLegs.{leg_pushed, placed}
use Rattle.icet_multi.proofs.Growing.{group_at}
use Rattle.icet_multi.proofs.legs.legs_of.Goals as goal

pub list-requires : goal.list-requires
list-requires c = let e = c.requires.groups.each in let l = c.loop-t-test.true in omega (arith, e, l)

pub leg_of-requires-clause-group : goal.leg_of-requires-clause-group
leg_of-requires-clause-group c = group_at _ _ c.args.tiles.now c.args.groups.now c.loop-t.t _ _ c.requires.groups c.loop-t-test.true c.index-tiles-t.is c.list.ensures refl

pub loop-t-preserved : goal.loop-t-preserved
loop-t-preserved c = leg_pushed (strategy_of c.args.single c.args.k) c.args.tiles.now c.args.groups.now c.loop-t.t _ _ _ c.loop-t.invariant c.in_ok-push.ensures.items
    (placed (strategy_of c.args.single c.args.k) c.args.tiles.now c.args.groups.now c.loop-t.t _ _ _ c.loop-t-test.true c.index-tiles-t.is c.list.ensures c.in_ok-leg_of.ensures)
