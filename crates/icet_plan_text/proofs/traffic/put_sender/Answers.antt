use Rattle.std.proofs.Common.{◌<◌, ◌≤◌, length, subst, arith, Ok}
use Rattle.std.specs.List.{flat_map, range_with_len}
use Rattle.std.proofs.lemmas.List.FromFn.{length-range_with_len}
use Rattle.icet_base.specs.PenText.{Puts}
use Rattle.icet_plan_text.proofs.Places.{take_whole}
use Rattle.std.proofs.lemmas.List.{length-map}
use Rattle.std.proofs.lemmas.Result.{err_from_is_err_and}
use Rattle.icet_model.specs.Exchange.{exchanges}
use Rattle.icet_model.specs.Plan.{plan_exchanges}
use Rattle.icet_base.proofs.PutPieces.{numbers_more, numbers_failed}
use Rattle.icet_plan_text.specs.PlanTexts.{sends_text}
use Rattle.icet_plan_text.proofs.traffic.put_sender.Goals as goal

pub returns-in_err-put_sends : goal.returns-in_err-put_sends
returns-in_err-put_sends g c =
    let p = err_from_is_err_and c.from_residual.result c.from_residual.ensures.1 in
    let all = plan_exchanges c.args.plan.now in
    let many = length-map c.args.plan.now.programs exchanges in
    let within : c.loop-to.to < length all = omega (arith, c.loop-to.auto.to-end, c.loop-to-test.true, many, c.ranks-to-end.ensures.ranks) in
    rw p.1 (numbers_failed g.K.Sink.told _ _ _ p.0 (sends_text all c.args.from) (length all) c.loop-to.to within c.loop-to.invariant c.in_err-put_sends.ensures)

pub loop-to-preserved : goal.loop-to-preserved
loop-to-preserved g c =
    let all = plan_exchanges c.args.plan.now in
    let many = length-map c.args.plan.now.programs exchanges in
    let within : c.loop-to.to < length all = omega (arith, c.loop-to.auto.to-end, c.loop-to-test.true, many, c.ranks-to-end.ensures.ranks) in
    numbers_more g.K.Sink.told _ _ _ (sends_text all c.args.from) (length all) c.loop-to.to within c.loop-to.invariant c.in_ok-put_sends.ensures

pub returns : goal.returns
returns g c =
    let all = plan_exchanges c.args.plan.now in
    let many = length-map c.args.plan.now.programs exchanges in
    let long = length-range_with_len 0 (length all) in
    let past : length (range_with_len 0 (length all)) ≤ c.loop-to.to = omega (arith, c.loop-to.auto.to-end, c.loop-to-test.false, many, long, c.ranks-to-end.ensures.ranks) in
    subst (λ ns. Puts g.K.Sink.told c.args.pen.now c.loop-to.pen (Ok tt) (flat_map (sends_text all c.args.from) ns)) (take_whole (range_with_len 0 (length all)) c.loop-to.to past) c.loop-to.invariant
