use Rattle.std.proofs.Common.{◌<◌, length, arith}
use Rattle.std.proofs.lemmas.Result.{err_from_is_err_and}
use Rattle.icet_model.specs.Exchange.{of_rank}
use Rattle.icet_model.specs.Plan.{plan_exchanges}
use Rattle.icet_base.proofs.PutPieces.{pieces_more, pieces_failed}
use Rattle.icet_plan_text.specs.PlanTexts.{send_text}
use Rattle.icet_plan_text.proofs.Places.{stands_at}
use Rattle.icet_plan_text.proofs.traffic.put_sends.Goals as goal

pub returns-in_err-put_send : goal.returns-in_err-put_send
returns-in_err-put_send g c =
    let p = err_from_is_err_and c.from_residual.result c.from_residual.ensures.1 in
    let es = of_rank (plan_exchanges c.args.plan.now) c.args.from in
    let within : c.loop-i.i < length es = omega (arith, c.loop-i.auto.i-end, c.loop-i-test.true, c.exchanges-i-end.ensures) in
    rw p.1 (pieces_failed g.K.Sink.told _ _ _ p.0 (send_text c.args.from c.args.to) es c.loop-i.i c.exchange.result within (stands_at es c.loop-i.i c.exchange.result c.exchange.result c.exchange.ensures) c.loop-i.invariant c.in_err-put_send.ensures)

pub loop-i-preserved : goal.loop-i-preserved
loop-i-preserved g c =
    let es = of_rank (plan_exchanges c.args.plan.now) c.args.from in
    let within : c.loop-i.i < length es = omega (arith, c.loop-i.auto.i-end, c.loop-i-test.true, c.exchanges-i-end.ensures) in
    pieces_more g.K.Sink.told _ _ _ (send_text c.args.from c.args.to) es c.loop-i.i c.exchange.result within (stands_at es c.loop-i.i c.exchange.result c.exchange.result c.exchange.ensures) c.loop-i.invariant c.in_ok-put_send.ensures
