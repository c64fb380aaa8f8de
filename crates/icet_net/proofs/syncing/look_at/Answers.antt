use Rattle.std.proofs.Common.{subst}
use Rattle.icet_rank.specs.Machine.{IsRunning}
use Rattle.icet_net.proofs.Looks.{one_more}
use Rattle.icet_net.proofs.syncing.look_at.Goals as goal

pub looking-preserved : goal.looking-preserved
looking-preserved g c = one_more (λ m. IsRunning m) c.args.ranks.now c.looking.i c.index-ranks-i.result c.looking-test.true (subst (λ m. IsRunning m) c.index-ranks-i.is c.number-number.ensures.running) c.looking.invariant
