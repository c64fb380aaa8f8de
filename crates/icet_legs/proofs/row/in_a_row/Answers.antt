use Rattle.std.proofs.Common.{arith, subst, sym}
use Rattle.icet_legs.specs.InRow.{AreLegsInRow}
use Rattle.icet_legs.proofs.RowPlans.{made_plan, made_ranks, made_row}
use Rattle.icet_legs.proofs.row.in_a_row.Goals as goal

pub programs_of-requires-clause-legs : goal.programs_of-requires-clause-legs
programs_of-requires-clause-legs c = subst (AreLegsInRow c.args.ranks) (sym c.deref.ensures.value) c.requires.legs

pub make-requires-clause-ranks : goal.make-requires-clause-ranks
make-requires-clause-ranks c =
    let n = made_ranks c.args.ranks c.args.legs.items c.requires.legs _ _ _ c.deref.ensures.value c.deref-2.ensures.value c.deref-3.ensures.value _ _ _ _ c.in_ok-programs.ensures c.in_ok-sizes.ensures c.in_ok-displays.ensures c.in_ok-brackets.ensures in
    let l = c.ranges.ranks.fits in
    omega (arith, n, l)

pub make-requires-clause-plan : goal.make-requires-clause-plan
make-requires-clause-plan c = made_plan c.args.ranks c.args.legs.items c.requires.legs _ _ _ c.deref.ensures.value c.deref-2.ensures.value c.deref-3.ensures.value _ _ _ _ c.in_ok-programs.ensures c.in_ok-sizes.ensures c.in_ok-displays.ensures c.in_ok-brackets.ensures

pub returns : goal.returns
returns c = made_row c.args.ranks c.args.legs.items c.requires.legs _ _ _ c.deref.ensures.value c.deref-2.ensures.value c.deref-3.ensures.value _ _ _ _ c.in_ok-programs.ensures c.in_ok-sizes.ensures c.in_ok-displays.ensures c.in_ok-brackets.ensures c.make.result c.make.ensures
