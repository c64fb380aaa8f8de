use Rattle.std.proofs.Common.{◌<◌, ◌≤◌, ◌-◌, map, Some, refl, arith}
use Rattle.icet_collect.specs.Collect.{stretch}
use Rattle.icet_collect.proofs.Positions.{places_more, drawn_pixel}
use Rattle.icet_collect.proofs.canvas.Canvas.put_run.Goals as goal

pub putting-preserved : goal.putting-preserved
putting-preserved c =
    let b = c.putting.self in
    let fs = c.args.fragments.now in
    let behind : c.args.at ≤ c.putting.position = omega arith in
    let value = drawn_pixel fs (c.putting.position - c.args.at) c.index-fragments-position.result (omega arith) c.index-fragments-position.is in
    places_more c.args.self.now b c.put.new.self (stretch c.args.self.now.tile c.args.at (map Some fs)) c.putting.position (Some c.index-fragments-position.result) c.putting.invariant c.put.ensures.places refl behind value
