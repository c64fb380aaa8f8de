use Rattle.std.proofs.Common.{◌≡◌, ◌∙◌, length, arith}
use Rattle.icet_groups.proofs.Seatings.{marked_ends, marked_more, seats_kept}
use Rattle.icet_groups.proofs.seats.seat_marked.Goals as goal

pub loop-r-preserved : goal.loop-r-preserved
loop-r-preserved c = record {
  many = seats_kept _ _ _ _ _ _ _ c.seat_next-left.ensures ∙ c.loop-r.invariant.many;
  seating = marked_more _ _ _ _ _ _ _ _ _ c.loop-r-test.true c.requires c.loop-r.invariant.seating c.seat_next-left.ensures;
}

pub returns : goal.returns
returns c = marked_ends c.args.t c.args.seats.now.items c.args.marks.now c.args.count c.loop-r.r c.loop-r.seats.items c.loop-r.left (let e : c.loop-r.r ≡ length c.args.seats.now.items = omega (arith, c.requires) in e) c.loop-r.invariant.seating
