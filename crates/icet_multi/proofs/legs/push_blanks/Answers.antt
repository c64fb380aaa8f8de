use Rattle.icet_multi.specs.Reduced.{blanking}
use Rattle.icet_multi.proofs.Growing.{shown_low, tile_grown}
use Rattle.icet_multi.proofs.legs.push_blanks.Goals as goal

pub push_blank-requires : goal.push_blank-requires
push_blank-requires c = shown_low _ _ c.args.tiles.now c.loop-t.t _ c.requires.shown c.loop-t-test.true c.index-tiles-t.is c.loop-t.invariant.same

pub loop-t-preserved : goal.loop-t-preserved
loop-t-preserved c = tile_grown blanking c.args.tiles.now c.loop-t.t _ _ _ _ c.loop-t-test.true c.index-tiles-t.is c.loop-t.invariant c.in_ok-push_blank.ensures
