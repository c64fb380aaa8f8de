use Rattle.std.proofs.Common.{◌∷◌, [], ap, length, refl, lit<, arith}
use Rattle.icet_sparse.proofs.Growing.{drawn_room, grown_pixels, grown_strip}
use Rattle.icet_sparse.proofs.strip.Strip.push.Goals as goal

pub lengthen-requires-clause-sum : goal.lengthen-requires-clause-sum
lengthen-requires-clause-sum c =
    let s = c.self.inside in
    let e = ap length c.self.view_is in
    drawn_room s.runs.items c.reserve.new.self.items s.fragments.items s.behind 1 c.self.invariant c.in_ok-reserve.ensures.items (omega arith)

pub invariant_of-self-2 : goal.invariant_of-self-2
invariant_of-self-2 c =
    let s = c.self.inside in
    let e = ap length c.self.view_is in
    grown_strip s.runs.items c.reserve.new.self.items c.lengthen.new.runs.items s.fragments.items c.push.new.self.items (c.args.fragment ∷ []) s.behind 1 c.self.invariant c.in_ok-reserve.ensures.items c.lengthen.ensures c.in_ok-push.ensures.items refl (lit< tt) (omega arith)

pub returns-clause-grown : goal.returns-clause-grown
returns-clause-grown c =
    let s = c.self.inside in
    rw (← c.self.view_is) (grown_pixels s.runs.items c.reserve.new.self.items c.lengthen.new.runs.items s.fragments.items c.push.new.self.items (c.args.fragment ∷ []) s.behind 1 c.self.invariant c.in_ok-reserve.ensures.items c.lengthen.ensures c.in_ok-push.ensures.items refl)
