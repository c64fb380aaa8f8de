use Rattle.std.proofs.Common.{Some}
use Rattle.icet_rank.proofs.LocalWork.{three_puts}
use Rattle.icet_rank.proofs.slots.put_joined.Goals as goal

pub returns-clause-slots : goal.returns-clause-slots
returns-clause-slots c = three_puts c.args.slots.now c.args.front c.args.back c.args.into (Some c.args.piece) c.requires.front c.requires.back c.requires.into
