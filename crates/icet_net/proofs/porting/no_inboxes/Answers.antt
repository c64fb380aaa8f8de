use Rattle.std.proofs.lemmas.List.{replicate_more}
use Rattle.icet_net.proofs.porting.no_inboxes.Goals as goal

pub making-preserved : goal.making-preserved
making-preserved g c = rw (c.in_ok-push.ensures.items, c.new.ensures, c.making.invariant) (replicate_more _ _)
