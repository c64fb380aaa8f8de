use Rattle.std.proofs.Common.{ℕ, ◌≤◌, take}
use Rattle.std.specs.List.{AllByRecursion}
use Rattle.icet_rank.specs.Machine.{Names}
use Rattle.icet_rank.proofs.slots.slots_of.Given as goal

abbrev pub invariant-loop-i : goal.invariant-loop-i
invariant-loop-i l = record {
  named : AllByRecursion (Names l.most) (take l.i l.program);
  least : (n : ℕ) → AllByRecursion (Names n) (take l.i l.program) → l.most ≤ n;
}
