use Rattle.std.proofs.Common.{refl}
use Rattle.icet_radixk.proofs.RoundSteps.{get_any, round_made}
use Rattle.icet_radixk.proofs.programs.round_at.Goals as goal

pub returns : goal.returns
returns c = round_made c.args.task.now c.args.factors.now c.requires.split c.args.i c.args.p _ c.requires.round c.requires.place refl refl c.requires.stride (get_any c.args.factors.now c.args.i 0 1 c.requires.round) c.requires.own c.requires.order
