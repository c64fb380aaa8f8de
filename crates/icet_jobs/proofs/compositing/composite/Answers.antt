use Rattle.std.proofs.Common.{◌≡◌, ◌++◌, length, arith, sym, subst, ap, ◌∙◌, map}
use Rattle.icet_scene_model.specs.Scene.{SceneView}
use Rattle.icet_model.specs.Traffic.{traffic}
use Rattle.icet_net.specs.Net.{pairs_of}
use Rattle.icet_net.specs.Opening.{CanOpen, sides_of}
use Rattle.icet_net.specs.Closing.{pictures_of}
use Rattle.icet_jobs.specs.Nets.{piece_images}
use Rattle.icet_jobs.specs.Composites.{rank_images}
use Rattle.icet_jobs.specs.Weights.{images_weight}
use Rattle.icet_jobs.proofs.Weighed.{image_count, images_long}
use Rattle.icet_jobs.proofs.SceneNets.{can_open, ordered, strategy_tiles}
use Rattle.icet_jobs.proofs.ScenePictures.{shown}
use Rattle.icet_jobs.proofs.SceneTraffic.{carried}
use Rattle.icet_jobs.proofs.compositing.composite.Goals as goal

pub weigh-weight-requires-clause-ranks : goal.weigh-weight-requires-clause-ranks
weigh-weight-requires-clause-ranks g c =
    let count = ap length (c.as_slice.ensures.value ∙ c.in_ok-images.ensures) ∙ image_count c.args.way.now.strands c.args.scene.now in
    omega (arith, count, c.ranks-ranks.ensures.lawful.few)

pub weigh-weight-requires-clause-each : goal.weigh-weight-requires-clause-each
weigh-weight-requires-clause-each g c =
    let tiles = c.count-tiles.ensures.count ∙ ap (λ (v : SceneView). length v.tiles) c.scene.view_is in
    images_long c.args.way.now.strands c.args.scene.now c.as_slice.result.now c.count-tiles.result (c.as_slice.ensures.value ∙ c.in_ok-images.ensures) tiles

pub run_net-requires-clause-ranks : goal.run_net-requires-clause-ranks
run_net-requires-clause-ranks g c =
    let count = ap length c.in_ok-images.ensures ∙ image_count c.args.way.now.strands c.args.scene.now in
    omega (arith, count, c.ranks-ranks.ensures.lawful.some)

pub returns-clause-weight : goal.returns-clause-weight
returns-clause-weight g c = c.weigh-weight.ensures ∙ ap images_weight (c.as_slice.ensures.value ∙ c.in_ok-images.ensures)

pub run_net-requires-clause-fits : goal.run_net-requires-clause-fits
run_net-requires-clause-fits g c =
    let plan = c.in_ok-plan.plan in
    λ κs h. subst (λ images. CanOpen plan c.scene.inside.layout images) (sym c.in_ok-images.ensures)
    (subst (λ (v : SceneView). CanOpen plan v.tiles (rank_images c.args.way.now.strands c.args.scene.now)) (sym c.scene.view_is)
    (can_open c.args.way.now.settings c.args.way.now.strands c.args.scene.now plan c.requires.strands c.ranks-ranks.ensures.lawful (ordered c.args.scene.now c.ranks-ranks.ensures.lawful).once.count c.in_ok-plan.ensures))

pub returns-clause-pictures : goal.returns-clause-pictures
returns-clause-pictures g c =
    let plan = c.in_ok-plan.plan in
    let way = c.args.way.now in
    c.in_ok-pictures.ensures.pictures
    ∙ ap (λ (v : SceneView). pictures_of (record { plan = plan; cap = way.cap; strands = way.strands; sides = map sides_of v.tiles; pairs = pairs_of plan }) v.mode (piece_images c.in_ok-images.images.items)) c.scene.view_is
    ∙ ap (λ images. pictures_of (record { plan = plan; cap = way.cap; strands = way.strands; sides = map sides_of c.args.scene.now.tiles; pairs = pairs_of plan }) c.args.scene.now.mode (piece_images images)) c.in_ok-images.ensures
    ∙ shown way.settings c.args.scene.now plan way.cap way.strands (pairs_of plan) c.requires.strands (ordered c.args.scene.now c.ranks-ranks.ensures.lawful) (strategy_tiles c.args.scene.now c.ranks-ranks.ensures.lawful) c.in_ok-plan.ensures

pub returns-clause-log : goal.returns-clause-log
returns-clause-log g c =
    let plan = c.in_ok-plan.plan in
    let way = c.args.way.now in
    let before = g.W.Wires.log c.args.wires.now in
    c.in_ok-pictures.ensures.log
    ∙ ap (λ (v : SceneView). before ++ traffic v.mode plan (piece_images c.in_ok-images.images.items)) c.scene.view_is
    ∙ ap (λ images. before ++ traffic c.args.scene.now.mode plan (piece_images images)) c.in_ok-images.ensures
    ∙ ap (λ es. before ++ es) (carried way.settings way.strands c.args.scene.now plan (ordered c.args.scene.now c.ranks-ranks.ensures.lawful).once.count c.in_ok-plan.ensures)
