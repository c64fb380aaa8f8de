use Rattle.std.proofs.Common.{ap, ◌++◌, Err}
use Rattle.std.proofs.lemmas.Result.{err_from_is_err_and}
use Rattle.icet_scene_model.specs.Scene.{SceneView}
use Rattle.icet_scene_model.specs.Lawful.{is_blending}
use Rattle.icet_scene_model.specs.Printed.{background_said, maxval_said, order_said}
use Rattle.icet_scene_text.proofs.LinePieces.{lines_failed, lines_then}
use Rattle.icet_scene_text.proofs.printing.put_settings.Goals as goal

pub returns-in_err-put_wide : goal.returns-in_err-put_wide
returns-in_err-put_wide g c =
    let p = err_from_is_err_and c.from_residual.result c.from_residual.ensures.1 in
    let failed = rw (ap (λ (v : SceneView). v.wide) c.scene.view_is) at c.in_err-put_wide.ensures in
    rw p.1 (lines_failed g.K.Sink.told _ _ p.0 (maxval_said c.args.scene.now.wide) ((background_said c.args.scene.now.background) ++ (order_said (is_blending c.args.scene.now.mode) c.args.scene.now.order)) failed)

pub returns-in_err-put_backdrop : goal.returns-in_err-put_backdrop
returns-in_err-put_backdrop g c =
    let p = err_from_is_err_and c.from_residual-in_err-put_backdrop.result c.from_residual-in_err-put_backdrop.ensures.1 in
    let first = rw (ap (λ (v : SceneView). v.wide) c.scene.view_is) at c.in_ok-put_wide.ensures in
    let failed = rw (ap (λ (v : SceneView). v.background) c.scene.view_is) at c.in_err-put_backdrop.ensures in
    rw p.1 (lines_then g.K.Sink.told _ _ _ (Err p.0) (maxval_said c.args.scene.now.wide) ((background_said c.args.scene.now.background) ++ (order_said (is_blending c.args.scene.now.mode) c.args.scene.now.order)) first (lines_failed g.K.Sink.told _ _ p.0 (background_said c.args.scene.now.background) (order_said (is_blending c.args.scene.now.mode) c.args.scene.now.order) failed))

pub returns : goal.returns
returns g c =
    let first = rw (ap (λ (v : SceneView). v.wide) c.scene.view_is) at c.in_ok-put_wide.ensures in
    let second = rw (ap (λ (v : SceneView). v.background) c.scene.view_is) at c.in_ok-put_backdrop.ensures in
    let third = rw (c.is_blending.ensures, c.as_slice.ensures, (ap (λ (v : SceneView). v.mode) c.scene.view_is), (ap (λ (v : SceneView). v.order) c.scene.view_is)) at c.put_front.ensures in
    lines_then g.K.Sink.told _ _ _ _ (maxval_said c.args.scene.now.wide) ((background_said c.args.scene.now.background) ++ (order_said (is_blending c.args.scene.now.mode) c.args.scene.now.order)) first (lines_then g.K.Sink.told _ _ _ _ (background_said c.args.scene.now.background) (order_said (is_blending c.args.scene.now.mode) c.args.scene.now.order) second third)
