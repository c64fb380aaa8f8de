use Rattle.icet_groups.proofs.GroupLists.{lists_more}
use Rattle.icet_groups.proofs.grouping.lists_of.Goals as goal

pub loop-t-preserved : goal.loop-t-preserved
loop-t-preserved c = lists_more _ _ c.loop-t.t _ _ _ c.in_ok-push.ensures.items c.loop-t.invariant c.in_ok-list_of.ensures
