use Rattle.std.proofs.Common.{sym, ◌<◌, length, arith}
use Rattle.std.proofs.lemmas.Result.{err_from_is_err_and}
use Rattle.icet_scene_model.specs.Picture.{picture_text}
use Rattle.icet_base.proofs.PutPieces.{pieces_more, pieces_failed}
use Rattle.icet_jobs.proofs.pictures.put_pictures.Goals as goal

pub returns-in_err-write_picture : goal.returns-in_err-write_picture
returns-in_err-write_picture g c =
    let p = err_from_is_err_and c.from_residual.result c.from_residual.ensures.1 in
    let within : c.loop-picture.picture-index < length c.args.pictures.now = omega (arith, c.loop-picture-test.true) in
    rw p.1 (pieces_failed g.K.Sink.told _ _ _ p.0 (λ picture. picture_text c.args.wide c.args.mode c.args.background picture.w picture.h picture.pixels) c.args.pictures.now c.loop-picture.picture-index c.picture-item.result within (sym c.picture-item.is) c.loop-picture.invariant c.in_err-write_picture.ensures)

pub loop-picture-preserved : goal.loop-picture-preserved
loop-picture-preserved g c =
    let within : c.loop-picture.picture-index < length c.args.pictures.now = omega (arith, c.loop-picture-test.true) in
    pieces_more g.K.Sink.told _ _ _ (λ picture. picture_text c.args.wide c.args.mode c.args.background picture.w picture.h picture.pixels) c.args.pictures.now c.loop-picture.picture-index c.picture-item.result within (sym c.picture-item.is) c.loop-picture.invariant c.in_ok-write_picture.ensures
