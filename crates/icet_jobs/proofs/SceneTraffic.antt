-- The traffic of a strategy's plan over the images of a scene.
use Rattle.std.proofs.Common.{◌≡◌, ℕ, map, length, ap, ◌∙◌}
use mathlib.Core.Path.{fun_ext}
use Rattle.icet_model.specs.Plan.{PlanView, bracket_flow, values}
use Rattle.icet_model.specs.Reading.{read_message}
use Rattle.icet_model.specs.Traffic.{entries, traffic}
use Rattle.icet_scene_model.specs.Scene.{SceneView}
use Rattle.icet_multi.specs.declared.settings.Settings.{Settings}
use Rattle.icet_jobs.specs.Composites.{IsPlanFor, images_of, composite_traffic}

-- what a plan of the strategy carries
pub carried : (settings : Settings) (strands : ℕ) (scene : SceneView) (plan : PlanView) → length scene.order ≡ scene.ranks → IsPlanFor settings scene plan → traffic scene.mode plan (images_of strands scene) ≡ composite_traffic settings strands scene
carried settings strands scene plan many is =
    ap (λ n. entries n (λ q r. map (read_message (values scene.mode (images_of strands scene))) (bracket_flow plan q r))) (is.programs ∙ many)
    ∙ ap (λ ms. entries scene.ranks (λ q r. map (read_message (values scene.mode (images_of strands scene))) (ms q r))) (fun_ext (λ q. fun_ext (λ r. is.messages q r)))
