use Rattle.std.proofs.Common.{length, sym, subst, ap, ◌∙◌}
use Rattle.std.specs.Prelude.{All}
use Rattle.std.proofs.lemmas.List.FromFn.{length-map-range_with_len}
use Rattle.icet_scene_model.specs.Scene.{SceneView}
use Rattle.icet_scene_model.specs.Boxes.{box}
use Rattle.icet_scene_model.specs.Jobs.{shapes_of}
use Rattle.icet_tiles.specs.Contributors.{HasEachOnce}
use Rattle.icet_multi.specs.Strategies.{KeepsOrder}
use Rattle.icet_jobs.proofs.SceneNets.{keep_order}
use Rattle.icet_jobs.proofs.planning.plan_of.Goals as goal

pub of-requires : goal.of-requires
of-requires c =
    let scene = c.args.scene.now in
    let order = c.as_slice-order.ensures ∙ ap (λ (v : SceneView). v.order) c.scene.view_is in
    let count = ap length (c.as_slice.ensures.value ∙ c.in_ok-boxes.ensures) ∙ length-map-range_with_len (λ rank. box (shapes_of scene.shapes rank)) 0 scene.ranks in
    record { order = subst (λ n. HasEachOnce n c.as_slice-order.result.now) (sym count) (subst (HasEachOnce scene.ranks) (sym order) c.ranks-ranks.ensures.lawful.each) }

pub plan-requires-clause-order : goal.plan-requires-clause-order
plan-requires-clause-order c =
    let order = c.as_slice-order.ensures ∙ ap (λ (v : SceneView). v.order) c.scene.view_is in
    rw c.ranks-ranks.ensures.count (subst (HasEachOnce c.args.scene.now.ranks) (sym order) c.ranks-ranks.ensures.lawful.each)

pub plan-requires-clause-kept : goal.plan-requires-clause-kept
plan-requires-clause-kept c = subst (All (KeepsOrder c.as_slice-order.result.now)) (sym c.in_ok-who.ensures) (keep_order c.as_slice.result.now c.as_slice-order.result.now c.scene.inside.layout)
