use Rattle.std.proofs.Common.{ap, ◌∷◌, [], ◌++◌, map, Err}
use Rattle.std.proofs.lemmas.Result.{err_from_is_err_and}
use Rattle.icet_scene_model.specs.Scene.{SceneView, Draws, EndIs, TileIs}
use Rattle.icet_scene_text.proofs.LinePieces.{lines_failed, lines_then, one_line}
use Rattle.icet_scene_text.proofs.printing.put_body.Goals as goal

pub returns-in_err-put_tiles : goal.returns-in_err-put_tiles
returns-in_err-put_tiles g c =
    let p = err_from_is_err_and c.from_residual.result c.from_residual.ensures.1 in
    let failed = rw (ap (λ (v : SceneView). v.tiles) c.scene.view_is) at c.in_err-put_tiles.ensures in
    rw p.1 (lines_failed g.K.Sink.told _ _ p.0 (map TileIs c.args.scene.now.tiles) ((map Draws c.args.scene.now.shapes) ++ (EndIs ∷ [])) failed)

pub returns-in_err-put_shapes : goal.returns-in_err-put_shapes
returns-in_err-put_shapes g c =
    let p = err_from_is_err_and c.from_residual-in_err-put_shapes.result c.from_residual-in_err-put_shapes.ensures.1 in
    let first = rw (ap (λ (v : SceneView). v.tiles) c.scene.view_is) at c.in_ok-put_tiles.ensures in
    let failed = rw (c.as_slice.ensures, (ap (λ (v : SceneView). v.shapes) c.scene.view_is)) at c.in_err-put_shapes.ensures in
    rw p.1 (lines_then g.K.Sink.told _ _ _ (Err p.0) (map TileIs c.args.scene.now.tiles) ((map Draws c.args.scene.now.shapes) ++ (EndIs ∷ [])) first (lines_failed g.K.Sink.told _ _ p.0 (map Draws c.args.scene.now.shapes) (EndIs ∷ []) failed))

pub returns : goal.returns
returns g c =
    let first = rw (ap (λ (v : SceneView). v.tiles) c.scene.view_is) at c.in_ok-put_tiles.ensures in
    let second = rw (c.as_slice.ensures, (ap (λ (v : SceneView). v.shapes) c.scene.view_is)) at c.in_ok-put_shapes.ensures in
    let third = one_line g.K.Sink.told _ _ _ EndIs c.put.ensures in
    lines_then g.K.Sink.told _ _ _ _ (map TileIs c.args.scene.now.tiles) ((map Draws c.args.scene.now.shapes) ++ (EndIs ∷ [])) first (lines_then g.K.Sink.told _ _ _ _ (map Draws c.args.scene.now.shapes) (EndIs ∷ []) second third)
