use Rattle.std.proofs.Common.{◌∙◌, Ok, Err, ap, refl, subst}
use Rattle.std.proofs.lemmas.Result.{err_from_is_err_and}
use Rattle.icet_model.specs.Streams.{WritesAll}
use Rattle.icet_scene_model.specs.Printed.{upgraded}
use Rattle.icet_words.specs.declared.job.Job.TheVariants.{Upgrade}
use Rattle.icet_cli.proofs.JobTexts.{job_written, job_failed, upgrade_is}
use Rattle.icet_cli.proofs.jobs.upgrade_scene.Goals as goal

pub returns-in_err-write_upgrade-clause-ends : goal.returns-in_err-write_upgrade-clause-ends
returns-in_err-write_upgrade-clause-ends g c = λ log.
    let command = c.args.command.now in
    let scene = c.args.scene.now in
    let text = ap upgraded c.in_ok-ready.ensures ∙ upgrade_is command scene c.requires in
    let from = err_from_is_err_and c.from_residual-in_err-write_upgrade.result c.from_residual-in_err-write_upgrade.ensures.1 in
    rw (from.1, from.2) (job_failed command scene g.K.Sink.told c.args.sink.now c.write_upgrade.new.sink log Upgrade c.requires refl
    (subst (WritesAll (g.K.Sink.told c.args.sink.now) (g.K.Sink.told c.write_upgrade.new.sink) (Err c.in_err-write_upgrade.field-0.0)) text c.in_err-write_upgrade.ensures))

pub returns-clause-ends : goal.returns-clause-ends
returns-clause-ends g c = λ log.
    let command = c.args.command.now in
    let scene = c.args.scene.now in
    let text = ap upgraded c.in_ok-ready.ensures ∙ upgrade_is command scene c.requires in
    job_written command scene g.K.Sink.told c.args.sink.now c.write_upgrade.new.sink log Upgrade c.requires refl
    (subst (WritesAll (g.K.Sink.told c.args.sink.now) (g.K.Sink.told c.write_upgrade.new.sink) (Ok tt)) text c.in_ok-write_upgrade.ensures)
