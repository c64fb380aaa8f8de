use Rattle.std.proofs.Common.{◌≡◌, unsigned_abs, rules}
use Rattle.icet_raster.proofs.EdgeSteps.{walk-weights}
use Rattle.icet_raster.proofs.walks.weights_at.Goals as goal

pub returns : goal.returns
returns c = λ x y are covered.
    let d : c.unsigned_abs.result ≡ unsigned_abs c.args.values.a = search rules in
    let e : c.unsigned_abs-2.result ≡ unsigned_abs c.args.values.b = search rules in
    let f : c.unsigned_abs-3.result ≡ unsigned_abs c.args.values.c = search rules in
    let w = walk-weights c.args.walk.now c.args.values x y _ _ _ c.requires are covered d e f in
    (record { sum = w.0; some = c.requires.some; small = c.requires.small }, w.1)
