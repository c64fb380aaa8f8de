use Rattle.icet_scene.proofs.Ranges.{range_more}
use Rattle.icet_demo.proofs.scene.all_ranks.Goals as goal

pub loop-r-preserved : goal.loop-r-preserved
loop-r-preserved c = rw (range_more c.loop-r.r, ← c.loop-r.invariant) c.in_ok-push.ensures.items
