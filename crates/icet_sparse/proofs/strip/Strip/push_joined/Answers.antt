use Rattle.std.proofs.Common.{◌≡◌, ◌<◌, ◌++◌, ◌∙◌, ap, length, sym, arith}
use Rattle.icet_sparse.specs.Joined.{joined_places}
use Rattle.icet_sparse.proofs.Growing.{drawn_room, grown_pixels, grown_strip}
use Rattle.icet_sparse.proofs.JoinedPlaces.{joined_length}
use Rattle.icet_sparse.proofs.strip.Strip.push_joined.Goals as goal

pub lengthen-requires-clause-sum : goal.lengthen-requires-clause-sum
lengthen-requires-clause-sum c =
    let s = c.self.inside in
    let e = ap length c.self.view_is in
    drawn_room s.runs.items c.reserve.new.self.items s.fragments.items s.behind (length c.args.front.now) c.self.invariant c.in_ok-reserve.ensures.items (omega arith)

pub invariant_of-self-2 : goal.invariant_of-self-2
invariant_of-self-2 c =
    let s = c.self.inside in
    let e = ap length c.self.view_is in
    let some : 0 < length c.args.front.now = grind arith in
    let places = joined_places c.args.mode c.args.front.now c.args.back.now in
    let count = joined_length c.args.mode c.args.front.now c.args.back.now c.requires.size in
    grown_strip s.runs.items c.reserve.new.self.items c.lengthen.new.runs.items s.fragments.items c.put_joined.new.fragments.items places s.behind (length c.args.front.now) c.self.invariant c.in_ok-reserve.ensures.items c.lengthen.ensures (c.put_joined.ensures ∙ ap (λ l. l ++ places) c.in_ok-reserve-2.ensures.items) (sym count) some (omega arith)

pub returns-clause-grown : goal.returns-clause-grown
returns-clause-grown c =
    let s = c.self.inside in
    let places = joined_places c.args.mode c.args.front.now c.args.back.now in
    let count = joined_length c.args.mode c.args.front.now c.args.back.now c.requires.size in
    rw (← c.self.view_is) (grown_pixels s.runs.items c.reserve.new.self.items c.lengthen.new.runs.items s.fragments.items c.put_joined.new.fragments.items places s.behind (length c.args.front.now) c.self.invariant c.in_ok-reserve.ensures.items c.lengthen.ensures (c.put_joined.ensures ∙ ap (λ l. l ++ places) c.in_ok-reserve-2.ensures.items) (sym count))
