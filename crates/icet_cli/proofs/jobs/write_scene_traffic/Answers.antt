use Rattle.std.proofs.Common.{Ok, Err, refl, subst}
use Rattle.std.proofs.lemmas.Result.{err_from_is_err_and}
use Rattle.icet_model.specs.Streams.{WritesAll}
use Rattle.icet_words.specs.declared.job.Job.TheVariants.{Traffic}
use Rattle.icet_jobs.specs.Composites.{IsPlanFor}
use Rattle.icet_cli.proofs.JobTexts.{job_written, job_failed, traffic_is}
use Rattle.icet_cli.proofs.jobs.write_scene_traffic.Goals as goal

pub returns-in_err-write_traffic-clause-ends : goal.returns-in_err-write_traffic-clause-ends
returns-in_err-write_traffic-clause-ends g c = λ log.
    let command = c.args.command.now in
    let scene = c.args.scene.now in
    let plan = c.in_ok-plan.plan in
    let is = subst (λ s. IsPlanFor s scene plan) c.settings.ensures.value c.in_ok-plan.ensures in
    let from = err_from_is_err_and c.from_residual-in_err-write_traffic.result c.from_residual-in_err-write_traffic.ensures.1 in
    rw (from.1, from.2) (job_failed command scene g.K.Sink.told c.args.sink.now c.write_traffic.new.sink log Traffic c.requires refl
    (subst (WritesAll (g.K.Sink.told c.args.sink.now) (g.K.Sink.told c.write_traffic.new.sink) (Err c.in_err-write_traffic.field-0.0)) (traffic_is command scene plan is c.requires) c.in_err-write_traffic.ensures))

pub returns-clause-ends : goal.returns-clause-ends
returns-clause-ends g c = λ log.
    let command = c.args.command.now in
    let scene = c.args.scene.now in
    let plan = c.in_ok-plan.plan in
    let is = subst (λ s. IsPlanFor s scene plan) c.settings.ensures.value c.in_ok-plan.ensures in
    job_written command scene g.K.Sink.told c.args.sink.now c.write_traffic.new.sink log Traffic c.requires refl
    (subst (WritesAll (g.K.Sink.told c.args.sink.now) (g.K.Sink.told c.write_traffic.new.sink) (Ok tt)) (traffic_is command scene plan is c.requires) c.in_ok-write_traffic.ensures)
