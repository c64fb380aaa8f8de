use Rattle.std.proofs.Common.{◌<◌, ◌≤◌, length, subst, arith, Ok}
use Rattle.std.specs.List.{flat_map, range_with_len}
use Rattle.std.proofs.lemmas.List.FromFn.{length-range_with_len}
use Rattle.icet_base.specs.PenText.{Puts}
use Rattle.icet_plan_text.proofs.Places.{take_whole}
use Rattle.std.proofs.lemmas.List.{length-map}
use Rattle.std.proofs.lemmas.Result.{err_from_is_err_and}
use Rattle.icet_model.specs.Exchange.{exchanges}
use Rattle.icet_model.specs.Plan.{plan_exchanges}
use Rattle.icet_base.proofs.PutPieces.{numbers_more, numbers_failed}
use Rattle.icet_plan_text.specs.PlanTexts.{sender_text}
use Rattle.icet_plan_text.proofs.traffic.put_traffic.Goals as goal

pub returns-in_err-put_sender : goal.returns-in_err-put_sender
returns-in_err-put_sender g c =
    let p = err_from_is_err_and c.from_residual.result c.from_residual.ensures.1 in
    let all = plan_exchanges c.args.plan.now in
    let many = length-map c.args.plan.now.programs exchanges in
    let within : c.loop-from.from < length all = omega (arith, c.loop-from.auto.from-end, c.loop-from-test.true, many, c.ranks-from-end.ensures.ranks) in
    rw p.1 (numbers_failed g.K.Sink.told _ _ _ p.0 (sender_text all) (length all) c.loop-from.from within c.loop-from.invariant c.in_err-put_sender.ensures)

pub loop-from-preserved : goal.loop-from-preserved
loop-from-preserved g c =
    let all = plan_exchanges c.args.plan.now in
    let many = length-map c.args.plan.now.programs exchanges in
    let within : c.loop-from.from < length all = omega (arith, c.loop-from.auto.from-end, c.loop-from-test.true, many, c.ranks-from-end.ensures.ranks) in
    numbers_more g.K.Sink.told _ _ _ (sender_text all) (length all) c.loop-from.from within c.loop-from.invariant c.in_ok-put_sender.ensures

pub returns : goal.returns
returns g c =
    let all = plan_exchanges c.args.plan.now in
    let many = length-map c.args.plan.now.programs exchanges in
    let long = length-range_with_len 0 (length all) in
    let past : length (range_with_len 0 (length all)) ≤ c.loop-from.from = omega (arith, c.loop-from.auto.from-end, c.loop-from-test.false, many, long, c.ranks-from-end.ensures.ranks) in
    subst (λ ns. Puts g.K.Sink.told c.args.pen.now c.loop-from.pen (Ok tt) (flat_map (sender_text all) ns)) (take_whole (range_with_len 0 (length all)) c.loop-from.from past) c.loop-from.invariant
