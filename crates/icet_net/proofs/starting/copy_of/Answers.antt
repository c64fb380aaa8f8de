use Rattle.icet_net.proofs.Started.{copied_more}
use Rattle.icet_net.proofs.starting.copy_of.Goals as goal

pub copying-preserved : goal.copying-preserved
copying-preserved c = copied_more _ _ _ _ _ c.op.ensures c.copying.invariant c.in_ok-push.ensures.items
