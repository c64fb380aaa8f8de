use Rattle.icet_net.proofs.ClosePorts.{removed_from}
use Rattle.icet_net.proofs.closing.take_port.Goals as goal

pub returns-clause-others : goal.returns-clause-others
returns-clause-others g c = rw (c.remove.ensures.items) (removed_from _ _ c.args.ports.now.items c.last_place-place.result c.args.peer c.deref.ensures.value c.last_place-place.ensures.within c.last_place-place.ensures.last)
