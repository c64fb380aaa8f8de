use Rattle.std.proofs.Common.{◌≡◌, ◌∙◌, ◌<◌, length, arith}
use Rattle.std.specs.Prelude.{true}
use Rattle.icet_groups.proofs.Seatings.{free_all, free_more, seats_kept}
use Rattle.icet_groups.proofs.seats.seat_free.Goals as goal

pub loop-r-preserved : goal.loop-r-preserved
loop-r-preserved c = record {
  many = seats_kept c.args.t c.loop-r.r true c.loop-r.seats.items c.seat_next-left.new.seats.items c.loop-r.left c.seat_next-left.result c.seat_next-left.ensures ∙ c.loop-r.invariant.many;
  filling = free_more c.args.t c.args.seats.now.items c.args.count c.loop-r.r c.loop-r.seats.items c.seat_next-left.new.seats.items c.loop-r.left c.seat_next-left.result (let e : c.loop-r.r < length c.args.seats.now.items = omega arith in e) c.loop-r.invariant.filling c.seat_next-left.ensures;
}

pub returns : goal.returns
returns c = free_all c.args.t c.args.seats.now.items c.args.count c.loop-r.r c.loop-r.seats.items c.loop-r.left (let e : c.loop-r.r ≡ length c.args.seats.now.items = omega arith in e) c.loop-r.invariant.filling
