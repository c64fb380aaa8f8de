use Rattle.std.proofs.Common.{◌+◌, [], ◌∷◌, sym, ap, ◌∙◌, arith}
use Rattle.icet_model.specs.Exchange.{of_rank}
use Rattle.icet_model.specs.Plan.{plan_exchanges}
use Rattle.icet_net.specs.Counting.{sent_in}
use Rattle.icet_net.proofs.Counted.{few_in_front, sent_more, peer_within}
use Rattle.icet_net.proofs.counting.counts_from.Goals as goal

pub count-requires-clause-peer : goal.count-requires-clause-peer
count-requires-clause-peer c = rw c.counting.invariant.count (peer_within c.args.plan.now c.args.from c.counting.i c.exchange.result c.ranks-ranks.ensures.plan c.exchange.ensures)

pub count-requires-clause-room : goal.count-requires-clause-room
count-requires-clause-room c =
    let p = c.exchange.result.peer in
    let e = c.counting.invariant.each p (peer_within c.args.plan.now c.args.from c.counting.i c.exchange.result c.ranks-ranks.ensures.plan c.exchange.ensures) in
    let f = few_in_front c.counting.i (of_rank (plan_exchanges c.args.plan.now) c.args.from) p in
    omega (arith, e, f, c.counting-test.true, c.exchanges-i-end.type_inv)

pub counting-preserved : goal.counting-preserved
counting-preserved c =
    let i = c.counting.invariant in
    let e = c.count.ensures in
    record {
      count = e.count ∙ i.count;
      each = λ r l. e.each r (let f = i.count in omega (arith, f, l)) ∙ (ap (λ n. n + sent_in (c.exchange.result ∷ []) r) (i.each r l) ∙ sym (sent_more _ c.counting.i c.exchange.result r c.exchange.ensures));
    }
