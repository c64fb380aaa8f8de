use Rattle.std.proofs.Common.{◌≡◌, [], replicate}
use Rattle.icet_net.proofs.porting.no_inboxes.Given as goal

abbrev pub invariant-making : goal.invariant-making
invariant-making g l = l.lists.items ≡ replicate l.counter []
