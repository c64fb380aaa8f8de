use Rattle.std.proofs.Common.{◌+◌, ◌<◌, length, arith, subst}
use Rattle.std.proofs.lemmas.List.{get_or_default}
use Rattle.icet_net.specs.Ranks.{GoesOn}
use Rattle.icet_tests.proofs.Stepped.{goes_next, goes_so_far}
use Rattle.icet_tests.proofs.stepping.step_each.Goals as goal

pub returns-in_err-step_often : goal.returns-in_err-step_often
returns-in_err-step_often g c =
    let i = c.stepping.i in
    let ranks = c.stepping.ranks in
    let l : i < length ranks = omega (arith, c.stepping.invariant.count) in
    goes_so_far (i + 1) c.args.ranks.now _ (goes_next i c.args.ranks.now ranks c.step_often.new.rank l (λ d. subst (λ x. GoesOn x c.step_often.new.rank) (get_or_default ranks i _ d l) c.step_often.ensures) c.stepping.invariant)

pub stepping-preserved : goal.stepping-preserved
stepping-preserved g c =
    let i = c.stepping.i in
    let ranks = c.stepping.ranks in
    let l : i < length ranks = omega (arith, c.stepping.invariant.count) in
    goes_next i c.args.ranks.now ranks c.step_often.new.rank l (λ d. subst (λ x. GoesOn x c.step_often.new.rank) (get_or_default ranks i _ d l) c.step_often.ensures) c.stepping.invariant
