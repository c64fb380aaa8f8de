use Rattle.std.proofs.Common.{◌++◌, Ok, Err, refl, ap, ◌∙◌, subst}
use Rattle.std.proofs.lemmas.Result.{err_from_is_err_and}
use Rattle.icet_model.specs.Streams.{WritesAll}
use Rattle.icet_jobs.specs.Composites.{composite_traffic, plain_pictures}
use Rattle.icet_jobs.specs.Texts.{summary_of}
use Rattle.icet_jobs.specs.Weights.{scene_weight}
use Rattle.icet_cli.proofs.JobTexts.{summary_is, summary_carries}
use Rattle.icet_cli.proofs.jobs.summarize_scene.Goals as goal

pub returns-in_err-write_summary-clause-ends : goal.returns-in_err-write_summary-clause-ends
returns-in_err-write_summary-clause-ends g c =
    let command = c.args.command.now in
    let scene = c.args.scene.now in
    let text = (λ i. summary_of scene (c.in_ok-outcome.ensures.pictures i) (c.in_ok-outcome.ensures.weight i)) ∙ (λ i. summary_of scene (plain_pictures (c.way_of.ensures.settings i) scene) (scene_weight (c.way_of.ensures.strands_are i) scene)) ∙ summary_is command scene c.requires in
    let from = err_from_is_err_and c.from_residual-in_err-write_summary.result c.from_residual-in_err-write_summary.ensures.1 in
    rw (from.1, from.2) (record {
      scene = scene;
      valid = refl;
      wrote = subst (WritesAll (g.K.Sink.told c.args.sink.now) (g.K.Sink.told c.write_summary.new.sink) (Err c.in_err-write_summary.field-0.0)) text c.in_err-write_summary.ensures;
      log = c.in_ok-outcome.ensures.log ∙ ap (λ t. g.W.Wires.log c.args.wires.now ++ t) ((λ i. composite_traffic (c.way_of.ensures.settings i) (c.way_of.ensures.strands_are i) scene) ∙ summary_carries command scene c.requires);
    })

pub returns-clause-ends : goal.returns-clause-ends
returns-clause-ends g c =
    let command = c.args.command.now in
    let scene = c.args.scene.now in
    let text = (λ i. summary_of scene (c.in_ok-outcome.ensures.pictures i) (c.in_ok-outcome.ensures.weight i)) ∙ (λ i. summary_of scene (plain_pictures (c.way_of.ensures.settings i) scene) (scene_weight (c.way_of.ensures.strands_are i) scene)) ∙ summary_is command scene c.requires in
    record {
      scene = scene;
      valid = refl;
      wrote = subst (WritesAll (g.K.Sink.told c.args.sink.now) (g.K.Sink.told c.write_summary.new.sink) (Ok tt)) text c.in_ok-write_summary.ensures;
      log = c.in_ok-outcome.ensures.log ∙ ap (λ t. g.W.Wires.log c.args.wires.now ++ t) ((λ i. composite_traffic (c.way_of.ensures.settings i) (c.way_of.ensures.strands_are i) scene) ∙ summary_carries command scene c.requires);
    }
