use Rattle.std.proofs.Common.{◌≡◌, length, subst, arith}
use Rattle.icet_upgrade.proofs.RowParts.{ok_then}
use Rattle.icet_upgrade.proofs.RowsLooked.{Looked, looked_all, looked_more, looked_none}
use Rattle.icet_upgrade.proofs.rows.add_row.Goals as goal

pub loop-tile-init : goal.loop-tile-init
loop-tile-init c = looked_none c.args.tiles.now c.args.y c.new-scan.result c.args.spans.now.items c.new-scan.ensures.scan c.new-scan.ensures.start.1 c.new-scan.ensures.start.2

pub loop-tile-preserved : goal.loop-tile-preserved
loop-tile-preserved c = looked_more c.args.tiles.now c.args.y c.loop-tile.tile-index c.new-scan.result c.args.spans.now.items c.loop-tile.scan c.loop-tile.spans.items c.tile-item.result c.loop-tile-test.true c.tile-item.is c.loop-tile.invariant
    c.pass_tile.new.scan c.pass_tile.new.spans.items c.requires.tiles c.in_ok-pass_tile.ensures

pub returns : goal.returns
returns c =
    let tiles = c.args.tiles.now in
    let all : c.loop-tile.tile-index ≡ length c.args.tiles.now = omega (arith, c.loop-tile-test.false, c.loop-tile.auto.tile-index-end) in
    let looked = subst (λ i. Looked c.args.tiles.now c.args.y i c.new-scan.result c.args.spans.now.items c.loop-tile.scan c.loop-tile.spans.items) all c.loop-tile.invariant in
    let s = c.new-scan.ensures.start in
    ok_then c.end_run.result c.end_run.ensures (λ e mode shapes images.
    looked_all tiles c.args.y c.args.rank c.new-scan.result c.loop-tile.scan c.end_run.new.self c.args.spans.now.items c.loop-tile.spans.items c.end_run.new.spans.items mode shapes s.0 s.1 s.2 s.3 looked e images)
