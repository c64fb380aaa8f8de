use Rattle.std.proofs.Common.{refl}
use Rattle.std.proofs.lemmas.Result.{err_from_is_err_and}
use Rattle.icet_cli.specs.declared.status.Status.TheVariants.{NoMemory}
use Rattle.icet_cli.specs.Outcome.{texts}
use Rattle.icet_cli.proofs.RunEndings.{left_alone}
use Rattle.icet_cli.proofs.top_call.run_words.Goals as goal

pub returns-in_err-command-clause-ends : goal.returns-in_err-command-clause-ends
returns-in_err-command-clause-ends g c = λ before after.
    let from = err_from_is_err_and c.from_residual.result c.from_residual.ensures.1 in
    rw (from.1, from.2) (λ noted. left_alone (texts c.args.words.now) _ _ NoMemory refl (refl, record { sink = refl; log = refl; noted = noted }))
