use Rattle.std.proofs.lemmas.Grind.{common_steps}
use Rattle.std.proofs.Common.{slice_index_or, refl, arith}
use Rattle.icet_net.proofs.Split.{met_then, met_else}
use Rattle.icet_net.proofs.syncing.sync_two.Goals as goal

pub returns-then-sender-receiver-clause-met : goal.returns-then-sender-receiver-clause-met
returns-then-sender-receiver-clause-met g c =
    let s = c.split_at_mut-front.ensures in
    let m = c.sync_pair.ensures in
    let l = c.if-sender-receiver.true in
    met_then c.args.from c.args.to c.args.cap c.sync_pair.new.sender c.sync_pair.new.receiver c.args.ranks.now _ c.split_at_mut-front.result.0.now c.split_at_mut-front.result.1.now s.value (slice_index_or c.split_at_mut-front.result.0.now c.from.inside.0 c.index-front-sender.result) (slice_index_or c.split_at_mut-front.result.1.now 0 c.index-back-0.result) c.from.inside.0 c.index-front-sender.result c.index-back-0.result c.from.view_is (let e = c.to.view_is in omega (arith, e, s.front_len)) (let e = c.to.view_is in let f = c.from.view_is in omega (arith, e, f, l)) c.requires.to refl refl c.requires.sender c.requires.receiver m.sender m.receiver m.out m.inbox m.pair refl

pub returns-else-sender-receiver-clause-met : goal.returns-else-sender-receiver-clause-met
returns-else-sender-receiver-clause-met g c =
    let s = c.split_at_mut-front-else-sender-receiver.ensures in
    let m = c.sync_pair-else-sender-receiver.ensures in
    let l = c.if-sender-receiver.false in
    met_else c.args.from c.args.to c.args.cap c.sync_pair-else-sender-receiver.new.sender c.sync_pair-else-sender-receiver.new.receiver c.args.ranks.now _ c.split_at_mut-front-else-sender-receiver.result.0.now c.split_at_mut-front-else-sender-receiver.result.1.now s.value (slice_index_or c.split_at_mut-front-else-sender-receiver.result.1.now 0 c.index-back-0-else-sender-receiver.result) (slice_index_or c.split_at_mut-front-else-sender-receiver.result.0.now c.to.inside.0 c.index-front-receiver.result) c.to.inside.0 c.index-front-receiver.result c.index-back-0-else-sender-receiver.result c.to.view_is (let e = c.from.view_is in omega (arith, e, s.front_len)) (let e = c.to.view_is in let f = c.from.view_is in omega (arith, e, f, l, c.requires.apart)) c.requires.from refl refl c.requires.sender c.requires.receiver m.sender m.receiver m.out m.inbox m.pair refl

pub returns-then-sender-receiver-clause-synced : goal.returns-then-sender-receiver-clause-synced
returns-then-sender-receiver-clause-synced g c = grind (arith, common_steps)

pub returns-else-sender-receiver-clause-synced : goal.returns-else-sender-receiver-clause-synced
returns-else-sender-receiver-clause-synced g c = grind (arith, common_steps)

pub returns-then-sender-receiver-clause-owed : goal.returns-then-sender-receiver-clause-owed
returns-then-sender-receiver-clause-owed g c = c.sync_pair.ensures.owed

pub returns-then-sender-receiver-clause-log : goal.returns-then-sender-receiver-clause-log
returns-then-sender-receiver-clause-log g c = c.sync_pair.ensures.log

pub returns-else-sender-receiver-clause-owed : goal.returns-else-sender-receiver-clause-owed
returns-else-sender-receiver-clause-owed g c = c.sync_pair-else-sender-receiver.ensures.owed

pub returns-else-sender-receiver-clause-log : goal.returns-else-sender-receiver-clause-log
returns-else-sender-receiver-clause-log g c = c.sync_pair-else-sender-receiver.ensures.log
