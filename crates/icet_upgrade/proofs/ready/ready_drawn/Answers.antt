use Rattle.std.proofs.Common.{◌≡◌, map, sym, ap, ◌∙◌, subst}
use Rattle.icet_scene.specs.Lines.{placed_of}
use Rattle.icet_scene.specs.Scenes.{AreShapes, IsLawfulScene}
use Rattle.icet_scene_model.specs.Scene.{SceneView}
use Rattle.std.specs.Prelude.{All}
use Rattle.icet_raster.specs.Shapes.{IsInRange}
use Rattle.icet_raster.specs.declared.shape.Shape.{Shape}
use Rattle.std.proofs.Common.{ℕ, List}
use Rattle.icet_upgrade.proofs.ReadyLawful.{ready-lawful}
use Rattle.icet_upgrade.proofs.ReadyScenes.{are_shapes, ready_of_parts}
use Rattle.icet_upgrade.proofs.ready.ready_drawn.Goals as goal

pub invariant_of-result : goal.invariant_of-result
invariant_of-result c =
    let view = c.scene.view_is in
    let lawful : IsLawfulScene c.args.scene.now = subst IsLawfulScene view c.scene.invariant.0 in
    let shapes = ap (map placed_of) c.from_vec.ensures ∙ c.in_ok-shapes.ensures.spans in
    let same = ready_of_parts c.args.scene.now _ _ _ _ _ _ _ (ap (λ (v : SceneView). v.mode) view) (ap (λ (v : SceneView). v.wide) view) (ap (λ (v : SceneView). v.ranks) view) (ap (λ (v : SceneView). v.background) view)
    (c.in_ok-order.ensures ∙ c.as_slice.ensures ∙ ap (λ (v : SceneView). v.order) view) (c.in_ok-layout.ensures ∙ ap (λ (v : SceneView). v.tiles) view) shapes in
    let in_range = subst (All (λ (shape : ℕ × Shape). IsInRange shape.1)) (sym c.from_vec.ensures) c.in_ok-shapes.ensures.in_range in (
      subst IsLawfulScene (sym same) (ready-lawful c.args.scene.now lawful),
      subst (λ (n : ℕ). AreShapes n c.from_vec.result) (sym (ap (λ (v : SceneView). v.ranks) view)) (are_shapes c.args.scene.now c.from_vec.result lawful shapes in_range),
    )
