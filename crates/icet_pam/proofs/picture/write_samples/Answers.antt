use Rattle.std.proofs.Common.{sym, ◌<◌, length, arith}
use Rattle.std.proofs.lemmas.Result.{err_from_is_err_and}
use Rattle.icet_scene_model.specs.Picture.{pixel_bytes}
use Rattle.icet_base.proofs.PutPieces.{pieces_more, pieces_failed}
use Rattle.icet_pam.proofs.picture.write_samples.Goals as goal

pub returns-in_err-write_pixel : goal.returns-in_err-write_pixel
returns-in_err-write_pixel g c =
    let p = err_from_is_err_and c.from_residual.result c.from_residual.ensures.1 in
    let failed = rw c.finish.ensures at c.in_err-write_pixel.ensures in
    let within : c.loop-pixel.pixel-index < length c.args.pixels.now = omega (arith, c.loop-pixel-test.true) in
    rw p.1 (pieces_failed g.K.Sink.told _ _ _ p.0 (pixel_bytes c.args.wide c.args.mode c.args.background) c.args.pixels.now c.loop-pixel.pixel-index c.pixel-item.result within (sym c.pixel-item.is) c.loop-pixel.invariant failed)

pub loop-pixel-preserved : goal.loop-pixel-preserved
loop-pixel-preserved g c =
    let more = rw c.finish.ensures at c.in_ok-write_pixel.ensures in
    let within : c.loop-pixel.pixel-index < length c.args.pixels.now = omega (arith, c.loop-pixel-test.true) in
    pieces_more g.K.Sink.told _ _ _ (pixel_bytes c.args.wide c.args.mode c.args.background) c.args.pixels.now c.loop-pixel.pixel-index c.pixel-item.result within (sym c.pixel-item.is) c.loop-pixel.invariant more
