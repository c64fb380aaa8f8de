use Rattle.std.proofs.Common.{ap, ◌∷◌, [], ◌++◌, Ok, Err}
use Rattle.std.proofs.lemmas.Result.{err_from_is_err_and}
use Rattle.icet_scene_model.specs.Lawful.{is_blending}
use Rattle.icet_scene_model.specs.Scene.{SceneView, HeadIs, ModeIs, RanksAre}
use Rattle.icet_scene_text.proofs.LinePieces.{lines_failed, lines_then, one_line}
use Rattle.icet_scene_text.proofs.printing.put_head.Goals as goal

pub returns-in_err-put_version : goal.returns-in_err-put_version
returns-in_err-put_version g c =
    let p = err_from_is_err_and c.from_residual.result c.from_residual.ensures.1 in
    let failed = one_line g.K.Sink.told _ _ (Err p.0) (HeadIs c.args.version) c.in_err-put_version.ensures in
    rw p.1 (lines_failed g.K.Sink.told _ _ p.0 (HeadIs c.args.version ∷ []) ((ModeIs (is_blending c.args.scene.now.mode) ∷ []) ++ (RanksAre c.args.scene.now.ranks ∷ [])) failed)

pub returns-in_err-put_mode : goal.returns-in_err-put_mode
returns-in_err-put_mode g c =
    let p = err_from_is_err_and c.from_residual-in_err-put_mode.result c.from_residual-in_err-put_mode.ensures.1 in
    let first = one_line g.K.Sink.told _ _ (Ok tt) (HeadIs c.args.version) c.in_ok-put_version.ensures in
    let failed = one_line g.K.Sink.told _ _ (Err p.0) (ModeIs (is_blending c.args.scene.now.mode)) (rw (c.is_blending.ensures, (ap (λ (v : SceneView). v.mode) c.scene.view_is)) at c.in_err-put_mode.ensures) in
    rw p.1 (lines_then g.K.Sink.told _ _ _ (Err p.0) (HeadIs c.args.version ∷ []) ((ModeIs (is_blending c.args.scene.now.mode) ∷ []) ++ (RanksAre c.args.scene.now.ranks ∷ [])) first (lines_failed g.K.Sink.told _ _ p.0 (ModeIs (is_blending c.args.scene.now.mode) ∷ []) (RanksAre c.args.scene.now.ranks ∷ []) failed))

pub returns : goal.returns
returns g c =
    let first = one_line g.K.Sink.told _ _ (Ok tt) (HeadIs c.args.version) c.in_ok-put_version.ensures in
    let second = one_line g.K.Sink.told _ _ (Ok tt) (ModeIs (is_blending c.args.scene.now.mode)) (rw (c.is_blending.ensures, (ap (λ (v : SceneView). v.mode) c.scene.view_is)) at c.in_ok-put_mode.ensures) in
    let third = one_line g.K.Sink.told _ _ (_) (RanksAre c.args.scene.now.ranks) (rw (ap (λ (v : SceneView). v.ranks) c.scene.view_is) at c.put_count.ensures) in
    lines_then g.K.Sink.told _ _ _ _ (HeadIs c.args.version ∷ []) ((ModeIs (is_blending c.args.scene.now.mode) ∷ []) ++ (RanksAre c.args.scene.now.ranks ∷ [])) first (lines_then g.K.Sink.told _ _ _ _ (ModeIs (is_blending c.args.scene.now.mode) ∷ []) (RanksAre c.args.scene.now.ranks ∷ []) second third)
