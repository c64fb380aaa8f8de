use Rattle.std.proofs.Common.{IsOk}
use Rattle.icet_workers.specs.Shares.{Does, DoneTo}
use Rattle.icet_workers.proofs.sharing.in_turn.Given as goal

abbrev pub invariant-loop-at : goal.invariant-loop-at
invariant-loop-at g l = DoneTo (Does g.F.Fn l.f (IsOk l.so_far)) l.at l.initial.items l.items
