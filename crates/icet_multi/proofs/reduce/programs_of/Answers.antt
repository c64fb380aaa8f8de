use Rattle.std.proofs.Common.{◌∙◌, arith, sym, subst}
use Rattle.icet_multi.specs.Reduced.{AllHaveSeats, AreGroupsFor, all_ops, programs_in}
use Rattle.icet_multi.proofs.Growing.{programs_long}
use Rattle.icet_multi.proofs.ReducePrograms.{all_done, all_short, ok_same, programs_are, tiles_known}
use Rattle.icet_multi.proofs.reduce.programs_of.Goals as goal

pub push_sends-requires-clause-low : goal.push_sends-requires-clause-low
push_sends-requires-clause-low c = let m = c.in_ok-drafts.ensures.many in omega (arith, m, c.requires.low)

pub push_sends-requires-clause-groups : goal.push_sends-requires-clause-groups
push_sends-requires-clause-groups c = subst (λ n. AreGroupsFor n c.args.tiles.now c.args.groups.now) (sym c.in_ok-drafts.ensures.many) c.requires.groups

pub push_folds-requires-clause-low : goal.push_folds-requires-clause-low
push_folds-requires-clause-low c = let m = c.in_ok-drafts.ensures.many in let s = c.in_ok-push_sends.ensures.same in omega (arith, m, s, c.requires.low)

pub push_folds-requires-clause-groups : goal.push_folds-requires-clause-groups
push_folds-requires-clause-groups c = subst (λ n. AreGroupsFor n c.args.tiles.now c.args.groups.now) (sym (c.in_ok-push_sends.ensures.same ∙ c.in_ok-drafts.ensures.many)) c.requires.groups

pub push_legs-requires-clause-few : goal.push_legs-requires-clause-few
push_legs-requires-clause-few c = let n = c.requires.count in omega (arith, n, c.requires.few)

pub push_legs-requires-clause-seats : goal.push_legs-requires-clause-seats
push_legs-requires-clause-seats c = subst (λ n. AllHaveSeats n c.args.groups.now (programs_in c.args.legs.now)) (sym (c.in_ok-push_folds.ensures.same ∙ (c.in_ok-push_sends.ensures.same ∙ c.in_ok-drafts.ensures.many))) c.requires.seats

pub push_blanks-requires-clause-shown : goal.push_blanks-requires-clause-shown
push_blanks-requires-clause-shown c = tiles_known c.args.ranks _ c.args.tiles.now c.args.groups.now c.requires.groups (c.in_ok-push_legs.ensures.same ∙ (c.in_ok-push_folds.ensures.same ∙ (c.in_ok-push_sends.ensures.same ∙ c.in_ok-drafts.ensures.many)))

pub finish-requires : goal.finish-requires
finish-requires c = record {
  short = all_short c.args.ranks c.args.tiles.now c.args.groups.now (programs_in c.args.legs.now) c.requires.low c.requires.few c.requires.groups (programs_long c.args.legs.now ∙ c.requires.count) c.requires.seats _
      (all_done c.args.ranks c.args.tiles.now c.args.groups.now (programs_in c.args.legs.now) _ _ _ _ _ c.in_ok-drafts.ensures.many c.in_ok-drafts.ensures.none c.in_ok-push_sends.ensures c.in_ok-push_folds.ensures c.in_ok-push_legs.ensures c.in_ok-push_blanks.ensures);
}

pub returns : goal.returns
returns c = ok_same (λ all. all.items) _ _
    (programs_are c.args.ranks (all_ops c.args.tiles.now c.args.groups.now (programs_in c.args.legs.now)) _
    (all_done c.args.ranks c.args.tiles.now c.args.groups.now (programs_in c.args.legs.now) _ _ _ _ _ c.in_ok-drafts.ensures.many c.in_ok-drafts.ensures.none c.in_ok-push_sends.ensures c.in_ok-push_folds.ensures c.in_ok-push_legs.ensures c.in_ok-push_blanks.ensures))
    c.finish.result c.finish.ensures
