use Rattle.std.proofs.Common.{◌<◌, ◌≤◌, length, subst, arith, Ok}
use Rattle.std.specs.List.{flat_map, range_with_len}
use Rattle.std.proofs.lemmas.List.FromFn.{length-range_with_len}
use Rattle.icet_base.specs.PenText.{Puts}
use Rattle.icet_plan_text.proofs.Places.{take_whole}
use Rattle.std.proofs.lemmas.List.{length-map}
use Rattle.std.proofs.lemmas.Result.{err_from_is_err_and}
use Rattle.icet_model.specs.Exchange.{exchanges}
use Rattle.icet_model.specs.Plan.{plan_exchanges}
use Rattle.icet_base.proofs.PutPieces.{numbers_more, numbers_failed}
use Rattle.icet_plan_text.specs.PlanTexts.{program_text}
use Rattle.icet_plan_text.proofs.plan.put_programs.Goals as goal

pub returns-in_err-put_program : goal.returns-in_err-put_program
returns-in_err-put_program g c =
    let p = err_from_is_err_and c.from_residual.result c.from_residual.ensures.1 in
    let all = plan_exchanges c.args.plan.now in
    let many = length-map c.args.plan.now.programs exchanges in
    let within : c.loop-rank.rank < length all = omega (arith, c.loop-rank.auto.rank-end, c.loop-rank-test.true, many, c.ranks-rank-end.ensures.ranks) in
    rw p.1 (numbers_failed g.K.Sink.told _ _ _ p.0 (program_text all) (length all) c.loop-rank.rank within c.loop-rank.invariant c.in_err-put_program.ensures)

pub loop-rank-preserved : goal.loop-rank-preserved
loop-rank-preserved g c =
    let all = plan_exchanges c.args.plan.now in
    let many = length-map c.args.plan.now.programs exchanges in
    let within : c.loop-rank.rank < length all = omega (arith, c.loop-rank.auto.rank-end, c.loop-rank-test.true, many, c.ranks-rank-end.ensures.ranks) in
    numbers_more g.K.Sink.told _ _ _ (program_text all) (length all) c.loop-rank.rank within c.loop-rank.invariant c.in_ok-put_program.ensures

pub returns : goal.returns
returns g c =
    let all = plan_exchanges c.args.plan.now in
    let many = length-map c.args.plan.now.programs exchanges in
    let long = length-range_with_len 0 (length all) in
    let past : length (range_with_len 0 (length all)) ≤ c.loop-rank.rank = omega (arith, c.loop-rank.auto.rank-end, c.loop-rank-test.false, many, long, c.ranks-rank-end.ensures.ranks) in
    subst (λ ns. Puts g.K.Sink.told c.args.pen.now c.loop-rank.pen (Ok tt) (flat_map (program_text all) ns)) (take_whole (range_with_len 0 (length all)) c.loop-rank.rank past) c.loop-rank.invariant
