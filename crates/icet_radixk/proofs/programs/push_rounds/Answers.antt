use Rattle.std.proofs.Common.{add-one}
use Rattle.icet_radixk.proofs.RoundSteps.{round_pushed}
use Rattle.icet_radixk.proofs.programs.push_rounds.Goals as goal

pub loop-i-preserved : goal.loop-i-preserved
loop-i-preserved c = record {
  grown = round_pushed c.args.task.now c.args.factors.now c.requires.split c.loop-i.i c.args.p _ c.round_at-round.ensures _ _ _ c.loop-i.invariant.grown c.in_ok-push.ensures;
  stride_is = rw add-one c.stride_behind-stride.ensures;
  own_is = rw add-one c.own_behind-own.ensures.range;
  order = c.own_behind-own.ensures.order;
}
