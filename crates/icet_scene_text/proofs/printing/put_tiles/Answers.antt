use Rattle.std.proofs.Common.{◌<◌, ◌≤◌, ◌++◌, codes, length, arith}
use Rattle.std.proofs.lemmas.Result.{err_from_is_err_and}
use Rattle.icet_tiles.specs.Layouts.{tile_view}
use Rattle.icet_scene_model.specs.Printed.{line_of}
use Rattle.icet_scene_model.specs.Scene.{Said, TileIs}
use Rattle.icet_scene_text.proofs.PieceLoops.{mapped_end, mapped_failed, mapped_more, stands_at}
use Rattle.icet_scene_text.proofs.printing.put_tiles.Goals as goal

pub returns-in_err-put_tile : goal.returns-in_err-put_tile
returns-in_err-put_tile g c =
    let p = err_from_is_err_and c.from_residual.result c.from_residual.ensures.1 in
    let tiles = c.args.layout.now in
    let within : c.loop-t.t < length tiles = omega (arith, c.loop-t.auto.t-end, c.loop-t-test.true, c.count-t-end.ensures.count) in
    let at = stands_at tiles c.loop-t.t (tile_view c.tile.result) (tile_view c.tile.result) c.tile.ensures.tile in
    rw p.1 (mapped_failed g.K.Sink.told (λ (said : Said). line_of said ++ codes "\n") TileIs _ _ _ p.0 tiles c.loop-t.t (tile_view c.tile.result) within at c.loop-t.invariant c.in_err-put_tile.ensures)

pub loop-t-preserved : goal.loop-t-preserved
loop-t-preserved g c =
    let tiles = c.args.layout.now in
    let within : c.loop-t.t < length tiles = omega (arith, c.loop-t.auto.t-end, c.loop-t-test.true, c.count-t-end.ensures.count) in
    let at = stands_at tiles c.loop-t.t (tile_view c.tile.result) (tile_view c.tile.result) c.tile.ensures.tile in
    mapped_more g.K.Sink.told (λ (said : Said). line_of said ++ codes "\n") TileIs _ _ _ tiles c.loop-t.t (tile_view c.tile.result) within at c.loop-t.invariant c.in_ok-put_tile.ensures

pub returns : goal.returns
returns g c =
    let tiles = c.args.layout.now in
    let past : length tiles ≤ c.loop-t.t = omega (arith, c.loop-t.auto.t-end, c.loop-t-test.false, c.count-t-end.ensures.count) in
    mapped_end g.K.Sink.told (λ (said : Said). line_of said ++ codes "\n") TileIs _ _ tiles c.loop-t.t past c.loop-t.invariant
