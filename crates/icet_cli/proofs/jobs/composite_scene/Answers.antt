use Rattle.std.proofs.Common.{◌++◌, Ok, Err, refl, ap, ◌∙◌, subst}
use Rattle.std.proofs.lemmas.Result.{err_from_is_err_and}
use Rattle.icet_model.specs.Streams.{WritesAll}
use Rattle.icet_jobs.specs.Composites.{composite_traffic, plain_pictures}
use Rattle.icet_jobs.specs.Texts.{texts_of}
use Rattle.icet_jobs.proofs.PictureTexts.{pictures_are}
use Rattle.icet_cli.proofs.JobTexts.{composite_is, composite_carries}
use Rattle.icet_cli.proofs.jobs.composite_scene.Goals as goal

pub returns-in_err-write_pictures-clause-ends : goal.returns-in_err-write_pictures-clause-ends
returns-in_err-write_pictures-clause-ends g c =
    let command = c.args.command.now in
    let scene = c.args.scene.now in
    let text = ap (texts_of scene) (c.in_ok-outcome.ensures.pictures ∙ ap (λ s. plain_pictures s scene) c.way_of.ensures.settings) ∙ pictures_are command.settings scene ∙ composite_is command scene c.requires in
    let from = err_from_is_err_and c.from_residual-in_err-write_pictures.result c.from_residual-in_err-write_pictures.ensures.1 in
    rw (from.1, from.2) (record {
      scene = scene;
      valid = refl;
      wrote = subst (WritesAll (g.K.Sink.told c.args.sink.now) (g.K.Sink.told c.write_pictures.new.sink) (Err c.in_err-write_pictures.field-0.0)) text c.in_err-write_pictures.ensures;
      log = c.in_ok-outcome.ensures.log ∙ ap (λ t. g.W.Wires.log c.args.wires.now ++ t) ((λ i. composite_traffic (c.way_of.ensures.settings i) (c.way_of.ensures.strands_are i) scene) ∙ composite_carries command scene c.requires);
    })

pub returns-clause-ends : goal.returns-clause-ends
returns-clause-ends g c =
    let command = c.args.command.now in
    let scene = c.args.scene.now in
    let text = ap (texts_of scene) (c.in_ok-outcome.ensures.pictures ∙ ap (λ s. plain_pictures s scene) c.way_of.ensures.settings) ∙ pictures_are command.settings scene ∙ composite_is command scene c.requires in
    record {
      scene = scene;
      valid = refl;
      wrote = subst (WritesAll (g.K.Sink.told c.args.sink.now) (g.K.Sink.told c.write_pictures.new.sink) (Ok tt)) text c.in_ok-write_pictures.ensures;
      log = c.in_ok-outcome.ensures.log ∙ ap (λ t. g.W.Wires.log c.args.wires.now ++ t) ((λ i. composite_traffic (c.way_of.ensures.settings i) (c.way_of.ensures.strands_are i) scene) ∙ composite_carries command scene c.requires);
    }
