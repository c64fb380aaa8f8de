use Rattle.std.proofs.Common.{refl, ◌≢◌, ◌≡◌, sym, ◌∙◌}
use Rattle.std.proofs.lemmas.Result.{err_from_is_err_and}
use Rattle.icet_words.specs.declared.job.Job.TheVariants.{Demo}
use Rattle.icet_cli.proofs.RunEndings.{reading_failed, runs_from, runs_made}
use Rattle.icet_cli.proofs.top_call.run_command.Goals as goal

pub returns-in_err-bytes-clause-ends : goal.returns-in_err-bytes-clause-ends
returns-in_err-bytes-clause-ends g c = λ words is before after.
    let from = err_from_is_err_and c.from_residual.result c.from_residual.ensures.1 in
    let reads : c.args.command.now.job ≢ Demo = λ e. c.makes_scene.ensures.read c.if-makes_scene.false (c.job.ensures ∙ e) in
    rw (from.1, from.2) (λ noted. reading_failed words c.args.command.now is reads _ _ c.in_err-bytes.field-0.0 c.in_err-bytes.ensures.fault refl refl noted)

pub returns-clause-ends : goal.returns-clause-ends
returns-clause-ends g c = λ words is before after noted.
    let reads : c.args.command.now.job ≢ Demo = λ e. c.makes_scene.ensures.read c.if-makes_scene.false (c.job.ensures ∙ e) in
    runs_from words c.args.command.now is reads c.as_slice.result.now _ _ c.do_text.result (rw c.as_slice.ensures.value c.in_ok-bytes.ensures.all) c.do_text.ensures.ends noted

pub returns-then-makes_scene-clause-ends : goal.returns-then-makes_scene-clause-ends
returns-then-makes_scene-clause-ends g c = λ words is before after noted.
    let makes : c.args.command.now.job ≡ Demo = sym c.job.ensures ∙ c.makes_scene.ensures.made c.if-makes_scene.true in
    runs_made words c.args.command.now is makes _ _ c.do_demo.result refl c.do_demo.ensures.ends noted
