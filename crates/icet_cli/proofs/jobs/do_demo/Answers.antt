use Rattle.std.proofs.Common.{inr, ap, ◌∙◌, subst}
use Rattle.icet_demo.specs.Demonstration.{demo_scene}
use Rattle.icet_scene_model.specs.Scene.{SceneView}
use Rattle.icet_scene_model.specs.Texts.{SceneText}
use Rattle.icet_cli.specs.JobEndings.{EndsWith, shown}
use Rattle.icet_cli.proofs.jobs.do_demo.Goals as goal

pub summarize_scene-requires-after_bounds : goal.summarize_scene-requires-after_bounds
summarize_scene-requires-after_bounds g c κs within = inr c.requires

pub returns-clause-ends : goal.returns-clause-ends
returns-clause-ends g c = subst
    (λ (scene : SceneView). EndsWith c.args.command.now (SceneText scene) (shown (g.K.Sink.told c.args.sink.now) (g.W.Wires.log c.args.wires.now)) (shown (g.K.Sink.told c.summarize_scene.new.sink) (g.W.Wires.log c.summarize_scene.new.wires)) c.summarize_scene.result)
    (c.in_ok-scene.ensures ∙ ap demo_scene c.seed.ensures)
    c.summarize_scene.ensures.ends
