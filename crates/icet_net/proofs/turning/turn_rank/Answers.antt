use Rattle.std.proofs.Common.{arith}
use Rattle.icet_net.proofs.TurnSteps.{goes_further, moved_more, turn_stops, turn_full}
use Rattle.icet_net.proofs.turning.turn_rank.Goals as goal

pub stepping-preserved : goal.stepping-preserved
stepping-preserved g c =
    let e = c.in_ok-step.ensures in
    moved_more c.stepping.steps c.stepping.invariant e.job e.pairings (e.moved c.in-Moved.is)

pub returns-in_err-step-clause-goes_on : goal.returns-in_err-step-clause-goes_on
returns-in_err-step-clause-goes_on g c =
    let e = c.in_err-step.ensures in
    let k = e.no_memory.counter in
    goes_further c.stepping.steps c.stepping.invariant e.job e.pairings (omega (arith, k))

pub returns-in-Pending : goal.returns-in-Pending
returns-in-Pending g c =
    let e = c.in_ok-step.ensures in
    let turned = turn_stops c.stepping.steps c.stepping.invariant e.job e.pairings c.args.burst c.in_ok-step.field-0 c.stepping-test.true c.in-Pending.is e.known e.none_left e.pending e.done in
    record { goes_on = turned.goes_on; turned = turned }

pub returns-clause-turned : goal.returns-clause-turned
returns-clause-turned g c =
    let l = c.stepping.auto.steps-end in
    let f = c.stepping-test.false in
    turn_full c.stepping.steps c.args.burst (omega (arith, l, f)) c.requires.burst c.stepping.invariant
