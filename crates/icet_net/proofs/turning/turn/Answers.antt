use Rattle.std.proofs.Common.{subst}
use Rattle.icet_net.specs.Ranks.{GoesOn, machine_at, no_machine}
use Rattle.icet_net.proofs.turning.turn.Goals as goal

pub returns-clause-goes_on : goal.returns-clause-goes_on
returns-clause-goes_on g c = record {
  count = c.for_each_share.ensures.count;
  each = λ r l.
      let call = c.for_each_share.ensures.each r no_machine l in
      subst (λ m. GoesOn m (machine_at c.for_each_share.new.items r)) call.argument_is (subst (GoesOn call.argument.now) call.left call.call.0);
}
