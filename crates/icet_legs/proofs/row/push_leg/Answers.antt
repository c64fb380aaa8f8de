use Rattle.std.proofs.Common.{ap, arith, length}
use Rattle.icet_legs.specs.InRow.{TileLegView}
use Rattle.icet_legs.proofs.RowSteps.{one_grown}
use Rattle.icet_legs.proofs.row.push_leg.Goals as goal

pub loop-p-preserved : goal.loop-p-preserved
loop-p-preserved c = one_grown (length c.args.drafts.now.items) c.args.t c.args.leg.now c.requires.ranked c.requires.distinct c.loop-p.p c.args.drafts.now.items c.loop-p.drafts.items c.append_at.new.drafts.items (let l = c.loop-p-test.true in let n = c.len-p-end.ensures in let v = ap (λ (x : TileLegView). length x.participants) c.leg.view_is in omega (arith, l, n, v)) c.loop-p.invariant c.in_ok-append_at.ensures
