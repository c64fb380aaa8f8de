use Rattle.std.proofs.Common.{◌≡◌, ℕ, List, [], map, sym, ap, ◌∙◌, subst, arith}
use Rattle.std.specs.List.{flat_map, range_with_len}
use Rattle.icet_model.specs.Tiles.{TileView, area_of}
use Rattle.std.specs.List.Sorted.{IsPermutation}
use Rattle.icet_model.specs.declared.names.Rect.{Rect}
use Rattle.icet_scene_model.specs.Jobs.{shapes_of}
use Rattle.icet_scene_model.specs.Ready.{rank_spans}
use Rattle.icet_scene_model.specs.Scene.{SceneView}
use Rattle.icet_upgrade.specs.Scans.{Adds}
use Rattle.icet_upgrade.proofs.Orders.{ready_by}
use Rattle.icet_upgrade.proofs.Steps.{adds_more}
use Rattle.icet_upgrade.proofs.ready.all_spans.Goals as goal

pub loop-rank-preserved : goal.loop-rank-preserved
loop-rank-preserved c = adds_more (λ (rank : ℕ). rank_spans c.args.scene.now.mode (map area_of c.in_ok-areas.areas.items) (shapes_of c.args.scene.now.shapes rank) rank) c.loop-rank.rank [] _ _ c.loop-rank.invariant
    (subst (λ (xs : List Rect). Adds c.loop-rank.spans.items c.add_rank.new.spans.items (rank_spans c.args.scene.now.mode (map area_of xs) (shapes_of c.args.scene.now.shapes c.loop-rank.rank) c.loop-rank.rank)) c.as_slice-in-loop-rank.ensures.value c.in_ok-add_rank.ensures)

pub returns-clause-spans : goal.returns-clause-spans
returns-clause-spans c =
    let ranks : c.loop-rank.rank ≡ c.scene.inside.ranks = omega (arith, c.loop-rank-test.false, c.loop-rank.auto.rank-end) in
    let perm = subst (λ (ts : List TileView). IsPermutation (map (λ (t : TileView). t.area) ts) (map area_of c.in_ok-areas.areas.items)) (ap (λ (v : SceneView). v.tiles) c.scene.view_is) c.in_ok-areas.ensures.same in
    let f = λ (rank : ℕ). rank_spans c.args.scene.now.mode (map area_of c.in_ok-areas.areas.items) (shapes_of c.args.scene.now.shapes rank) rank in
    c.loop-rank.invariant.grown ∙ ap (λ (n : ℕ). flat_map f (range_with_len 0 n)) (ranks ∙ ap (λ (v : SceneView). v.ranks) c.scene.view_is) ∙ sym (ready_by c.args.scene.now (map area_of c.in_ok-areas.areas.items) perm)
