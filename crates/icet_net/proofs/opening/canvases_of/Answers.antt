use Rattle.std.proofs.Common.{refl}
use Rattle.icet_net.proofs.Sides.{canvases_more}
use Rattle.icet_net.proofs.opening.canvases_of.Goals as goal

pub making-preserved : goal.making-preserved
making-preserved c = canvases_more c.args.sides.now c.args.strands c.making.t _ _ _ _ (0, 0) c.making-test.true c.making.invariant refl c.in_ok-blank.ensures c.in_ok-push.ensures.items
