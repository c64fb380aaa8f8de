use Rattle.std.proofs.Common.{arith}
use Rattle.icet_multi.proofs.Growing.{block_at, block_sends_more}
use Rattle.icet_multi.proofs.blocks.push_tile_sends.Goals as goal

pub block_tile-requires-clause-few : goal.block_tile-requires-clause-few
block_tile-requires-clause-few c = let k = c.requires.group.known in omega (arith, k, c.requires.low)

pub block_tile-requires-clause-low : goal.block_tile-requires-clause-low
block_tile-requires-clause-low c = let k = c.requires.group.known in let f = c.requires.group.few in omega (arith, k, f, c.requires.low)

pub push_block_sends-requires : goal.push_block_sends-requires
push_block_sends-requires c = record { block = block_at _ _ c.args.tile.now c.args.group.now c.loop-j.j _ c.requires.group c.loop-j-test.true c.in_ok-block.ensures c.loop-j.invariant.same }

pub loop-j-preserved : goal.loop-j-preserved
loop-j-preserved c = block_sends_more c.args.t c.args.tile.now c.args.group.now c.loop-j.j _ _ _ _ c.in_ok-block.ensures c.loop-j.invariant c.in_ok-push_block_sends.ensures
