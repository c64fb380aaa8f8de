use Rattle.std.proofs.Common.{◌≤◌, sym, subst, arith}
use Rattle.icet_scene_model.specs.Scene.{SceneView}
use Rattle.icet_net.specs.Opening.{CanOpen}
use Rattle.icet_jobs.specs.Composites.{rank_images}
use Rattle.icet_jobs.proofs.SceneNets.{can_open, ordered}
use Rattle.icet_net_bench.proofs.timing.time_once.Goals as goal

pub open_net-requires-clause-fits : goal.open_net-requires-clause-fits
open_net-requires-clause-fits g c =
    let plan = c.in_ok-plan.plan in
    let lawful = c.ranks-ranks.ensures.lawful in
    λ κs h. subst (λ images. CanOpen plan c.scene.inside.layout images) (sym c.in_ok-images.ensures)
    (subst (λ (v : SceneView). CanOpen plan v.tiles (rank_images 1 c.args.scene.now)) (sym c.scene.view_is)
    (can_open c.args.settings 1 c.args.scene.now plan (let some : 1 ≤ 1 = omega arith in some) lawful (ordered c.args.scene.now lawful).once.count c.in_ok-plan.ensures))
