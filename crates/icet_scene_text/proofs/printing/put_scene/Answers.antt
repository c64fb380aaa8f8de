use Rattle.std.proofs.Common.{◌++◌, Err}
use Rattle.std.proofs.lemmas.Result.{err_from_is_err_and}
use Rattle.icet_scene_model.specs.Printed.{body_said, head_said, settings_said}
use Rattle.icet_scene_text.proofs.LinePieces.{lines_failed, lines_then}
use Rattle.icet_scene_text.proofs.printing.put_scene.Goals as goal

pub returns-in_err-put_head : goal.returns-in_err-put_head
returns-in_err-put_head g c =
    let p = err_from_is_err_and c.from_residual.result c.from_residual.ensures.1 in
    let failed = c.in_err-put_head.ensures in
    rw p.1 (lines_failed g.K.Sink.told _ _ p.0 (head_said c.args.version c.args.scene.now) ((settings_said c.args.scene.now) ++ (body_said c.args.scene.now)) failed)

pub returns-in_err-put_settings : goal.returns-in_err-put_settings
returns-in_err-put_settings g c =
    let p = err_from_is_err_and c.from_residual-in_err-put_settings.result c.from_residual-in_err-put_settings.ensures.1 in
    let first = c.in_ok-put_head.ensures in
    let failed = c.in_err-put_settings.ensures in
    rw p.1 (lines_then g.K.Sink.told _ _ _ (Err p.0) (head_said c.args.version c.args.scene.now) ((settings_said c.args.scene.now) ++ (body_said c.args.scene.now)) first (lines_failed g.K.Sink.told _ _ p.0 (settings_said c.args.scene.now) (body_said c.args.scene.now) failed))

pub returns : goal.returns
returns g c =
    let first = c.in_ok-put_head.ensures in
    let second = c.in_ok-put_settings.ensures in
    let third = c.put_body.ensures in
    lines_then g.K.Sink.told _ _ _ _ (head_said c.args.version c.args.scene.now) ((settings_said c.args.scene.now) ++ (body_said c.args.scene.now)) first (lines_then g.K.Sink.told _ _ _ _ (settings_said c.args.scene.now) (body_said c.args.scene.now) second third)
