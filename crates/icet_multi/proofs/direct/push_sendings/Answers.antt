use Rattle.std.proofs.Common.{◌∙◌, ◌++◌, ap}
use Rattle.std.proofs.lemmas.List.{take_all}
use Rattle.icet_multi.specs.Direct.{sending, sendings}
use Rattle.icet_multi.proofs.ByTile.{tile_put}
use Rattle.icet_multi.proofs.direct.push_sendings.Goals as goal

pub loop-t-preserved : goal.loop-t-preserved
loop-t-preserved c = tile_put (λ n x. sending n x c.args.rank) _ _ _ c.args.tiles.now c.loop-t.t c.index-tiles-t.result c.loop-t-test.true c.loop-t.invariant c.index-tiles-t.is c.in_ok-push_sending.ensures

pub returns : goal.returns
returns c = c.loop-t.invariant ∙ ap (λ xs. c.args.ops.now.items ++ sendings 0 xs c.args.rank) (take_all c.loop-t.t c.args.tiles.now c.loop-t-test.false)
