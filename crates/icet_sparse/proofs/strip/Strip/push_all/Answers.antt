use Rattle.std.proofs.Common.{◌<◌, ap, length, refl, arith}
use Rattle.icet_sparse.proofs.Growing.{drawn_room, grown_pixels, grown_strip}
use Rattle.icet_sparse.proofs.strip.Strip.push_all.Goals as goal

pub lengthen-requires-clause-sum : goal.lengthen-requires-clause-sum
lengthen-requires-clause-sum c =
    let s = c.self.inside in
    let e = ap length c.self.view_is in
    drawn_room s.runs.items c.reserve.new.self.items s.fragments.items s.behind (length c.args.fragments.now) c.self.invariant c.in_ok-reserve.ensures.items (omega arith)

pub invariant_of-self-2 : goal.invariant_of-self-2
invariant_of-self-2 c =
    let s = c.self.inside in
    let e = ap length c.self.view_is in
    let some : 0 < length c.args.fragments.now = grind arith in
    grown_strip s.runs.items c.reserve.new.self.items c.lengthen.new.runs.items s.fragments.items c.extend_from_slice.new.self.items c.args.fragments.now s.behind (length c.args.fragments.now) c.self.invariant c.in_ok-reserve.ensures.items c.lengthen.ensures c.in_ok-extend_from_slice.ensures.items refl some (omega arith)

pub returns-clause-grown : goal.returns-clause-grown
returns-clause-grown c =
    let s = c.self.inside in
    rw (← c.self.view_is) (grown_pixels s.runs.items c.reserve.new.self.items c.lengthen.new.runs.items s.fragments.items c.extend_from_slice.new.self.items c.args.fragments.now s.behind (length c.args.fragments.now) c.self.invariant c.in_ok-reserve.ensures.items c.lengthen.ensures c.in_ok-extend_from_slice.ensures.items refl)
