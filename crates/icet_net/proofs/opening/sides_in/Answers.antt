use Rattle.icet_net.proofs.Sides.{sides_more}
use Rattle.icet_net.proofs.opening.sides_in.Goals as goal

pub sizing-preserved : goal.sizing-preserved
sizing-preserved c = sides_more c.args.layout.now c.sizing.t _ _ _ c.tile.ensures.tile c.sizing.invariant c.in_ok-push.ensures.items
