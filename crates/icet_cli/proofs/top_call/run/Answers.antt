use Rattle.std.proofs.Common.{refl}
use Rattle.icet_cli.proofs.top_call.run.Goals as goal

pub returns-in-Ok-clause-runs : goal.returns-in-Ok-clause-runs
returns-in-Ok-clause-runs g c = c.in-Ok.ensures.ends _ _ refl

pub returns-in-Err-clause-runs : goal.returns-in-Err-clause-runs
returns-in-Err-clause-runs g c = rw c.status.ensures (c.in-Err.ensures.ends _ _ c.note_fault.ensures)
