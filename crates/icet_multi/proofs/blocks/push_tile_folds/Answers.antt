use Rattle.std.proofs.Common.{arith}
use Rattle.icet_multi.proofs.Growing.{block_at, block_folds_more}
use Rattle.icet_multi.proofs.blocks.push_tile_folds.Goals as goal

pub block_tile-requires-clause-few : goal.block_tile-requires-clause-few
block_tile-requires-clause-few c = let k = c.requires.group.known in omega (arith, k, c.requires.low)

pub block_tile-requires-clause-low : goal.block_tile-requires-clause-low
block_tile-requires-clause-low c = let k = c.requires.group.known in let f = c.requires.group.few in omega (arith, k, f, c.requires.low)

pub fold-requires : goal.fold-requires
fold-requires c = (block_at _ _ c.args.tile.now c.args.group.now c.loop-j.j _ c.requires.group c.loop-j-test.true c.in_ok-block.ensures c.loop-j.invariant.same).display

pub loop-j-preserved : goal.loop-j-preserved
loop-j-preserved c =
    block_folds_more c.args.t c.args.tile.now c.args.group.now c.loop-j.j _ _ _ _ c.in_ok-block.ensures c.loop-j.invariant
    (block_at _ _ c.args.tile.now c.args.group.now c.loop-j.j _ c.requires.group c.loop-j-test.true c.in_ok-block.ensures c.loop-j.invariant.same).display
    c.in_ok-fold.ensures
