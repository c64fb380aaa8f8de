use Rattle.std.proofs.Common.{arith, rules}
use Rattle.icet_net.proofs.ClosePorts.{last_here}
use Rattle.icet_net.proofs.closing.last_place.Goals as goal

pub returns-then-eq-clause-last : goal.returns-then-eq-clause-last
returns-then-eq-clause-last g c = last_here c.seeking.at _ c.args.peer c.args.ports.now c.index-ports-at.result (let l = c.seeking-test.true in omega (arith, l)) (search rules) c.seeking.invariant
