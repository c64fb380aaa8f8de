use Rattle.icet_groups.proofs.Seatings.{marks_more}
use Rattle.icet_groups.proofs.seats.marks_of.Goals as goal

pub loop-rank-preserved : goal.loop-rank-preserved
loop-rank-preserved c = marks_more c.args.ranks c.args.marked.now c.loop-rank.rank-index c.rank-item.result c.loop-rank.marks.items c.mark.new.marks.items c.loop-rank.invariant c.loop-rank-test.true c.rank-item.is c.mark.ensures
