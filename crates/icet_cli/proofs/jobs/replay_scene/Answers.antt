use Rattle.std.proofs.Common.{Ok, Err, ap, refl, ◌∙◌, subst}
use Rattle.std.proofs.lemmas.Result.{err_from_is_err_and}
use Rattle.icet_model.specs.Replay.{replay_text}
use Rattle.icet_jobs.specs.Texts.{WritesText}
use Rattle.icet_words.specs.declared.job.Job.TheVariants.{Replay}
use Rattle.icet_jobs.specs.Composites.{IsPlanFor}
use Rattle.icet_cli.proofs.JobTexts.{job_written, replay_is, replay_failed}
use Rattle.icet_cli.proofs.jobs.replay_scene.Goals as goal

pub returns-in_err-write_replay-clause-ends : goal.returns-in_err-write_replay-clause-ends
returns-in_err-write_replay-clause-ends g c = λ log.
    let command = c.args.command.now in
    let scene = c.args.scene.now in
    let plan = c.in_ok-plan.plan in
    let is = subst (λ s. IsPlanFor s scene plan) c.settings.ensures.value c.in_ok-plan.ensures in
    let text = ap (λ n. replay_text plan n c.schedule.result.now) c.cap.ensures.value ∙ ap (replay_text plan command.cap) c.schedule.ensures ∙ replay_is command scene plan is c.requires in
    let from = err_from_is_err_and c.from_residual-in_err-write_replay.result c.from_residual-in_err-write_replay.ensures.1 in
    rw (from.1, from.2) (replay_failed command scene g.K.Sink.told c.args.sink.now c.write_replay.new.sink log Replay c.requires refl c.in_err-write_replay.field-0.0
    (subst (WritesText g.K.Sink.told c.args.sink.now c.write_replay.new.sink (Err c.in_err-write_replay.field-0.0)) text c.in_err-write_replay.ensures))

pub returns-clause-ends : goal.returns-clause-ends
returns-clause-ends g c = λ log.
    let command = c.args.command.now in
    let scene = c.args.scene.now in
    let plan = c.in_ok-plan.plan in
    let is = subst (λ s. IsPlanFor s scene plan) c.settings.ensures.value c.in_ok-plan.ensures in
    let text = ap (λ n. replay_text plan n c.schedule.result.now) c.cap.ensures.value ∙ ap (replay_text plan command.cap) c.schedule.ensures ∙ replay_is command scene plan is c.requires in
    job_written command scene g.K.Sink.told c.args.sink.now c.write_replay.new.sink log Replay c.requires refl
    (subst (WritesText g.K.Sink.told c.args.sink.now c.write_replay.new.sink (Ok tt)) text c.in_ok-write_replay.ensures)
