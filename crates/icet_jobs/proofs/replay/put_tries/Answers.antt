use Rattle.std.proofs.Common.{◌<◌, length, arith}
use Rattle.std.proofs.lemmas.Result.{err_from_is_err_and}
use Rattle.icet_jobs.specs.Replays.{replay_of}
use Rattle.icet_jobs.proofs.ReplayLines.{puts_on, line_failed}
use Rattle.icet_jobs.proofs.replay.put_tries.Goals as goal

pub returns-in_err-put_try : goal.returns-in_err-put_try
returns-in_err-put_try g c =
    let p = err_from_is_err_and c.from_residual.result c.from_residual.ensures.1 in
    let within : c.loop-rank.rank-index < length c.args.schedule.now = omega (arith, c.loop-rank-test.true) in
    rw p.1 (line_failed g.K.Sink.told c.loop-rank.core c.args.schedule.now c.loop-rank.rank-index p.0 _ _ _ (replay_of c.args.core.now c.args.schedule.now) within c.loop-rank.invariant c.in_err-put_try.ensures.puts)

pub loop-rank-preserved : goal.loop-rank-preserved
loop-rank-preserved g c =
    let within : c.loop-rank.rank-index < length c.args.schedule.now = omega (arith, c.loop-rank-test.true) in
    puts_on g.K.Sink.told c.loop-rank.core c.put_try.new.core c.args.schedule.now c.loop-rank.rank-index _ _ _ (replay_of c.args.core.now c.args.schedule.now) within c.loop-rank.invariant c.in_ok-put_try.ensures.puts c.in_ok-put_try.ensures.core
