use Rattle.std.proofs.Common.{arith}
use Rattle.icet_multi.specs.Reduced.{tile_sends}
use Rattle.icet_multi.proofs.Growing.{group_at, group_grown}
use Rattle.icet_multi.proofs.blocks.push_sends.Goals as goal

pub list-requires : goal.list-requires
list-requires c = let e = c.requires.groups.each in let l = c.loop-t-test.true in omega (arith, e, l)

pub push_tile_sends-requires-clause-low : goal.push_tile_sends-requires-clause-low
push_tile_sends-requires-clause-low c = let s = c.loop-t.invariant.same in omega (arith, s, c.requires.low)

pub push_tile_sends-requires-clause-group : goal.push_tile_sends-requires-clause-group
push_tile_sends-requires-clause-group c = group_at _ _ c.args.tiles.now c.args.groups.now c.loop-t.t _ _ c.requires.groups c.loop-t-test.true c.index-tiles-t.is c.list.ensures c.loop-t.invariant.same

pub loop-t-preserved : goal.loop-t-preserved
loop-t-preserved c = group_grown tile_sends c.args.tiles.now c.args.groups.now c.loop-t.t _ _ _ _ _ c.loop-t-test.true c.index-tiles-t.is c.list.ensures c.loop-t.invariant c.in_ok-push_tile_sends.ensures
