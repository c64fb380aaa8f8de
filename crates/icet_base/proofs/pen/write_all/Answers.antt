use Rattle.icet_base.proofs.GrowingBytes.{writes_on}
use Rattle.icet_base.proofs.pen.write_all.Goals as goal

pub loop-at-preserved : goal.loop-at-preserved
loop-at-preserved g c =
    writes_on _ _ _ _ _ _ c.loop-at.invariant c.in_ok-at.ensures.count.1 c.in_ok-at.ensures.bytes c.in_ok-at.ensures.cause.well
