use Rattle.std.proofs.Common.{◌≡◌, ◌-◌, ◌≤◌, length, take, drop}
use Rattle.icet_sparse.specs.Shared.{AreRunsOf}
use Rattle.icet_sparse.proofs.shared.next_runs.Given as goal

abbrev pub invariant-cutting : goal.invariant-cutting
invariant-cutting l = record {
  runs : AreRunsOf l.list.runs.items l.list.behind (take (l.initial.left - l.left) l.initial.walk);
  rest : l.walk ≡ drop (l.initial.left - l.left) l.initial.walk;
  within : l.left ≤ l.initial.left;
  enough : l.initial.left ≤ length l.initial.walk;
}

abbrev pub decreases-cutting : goal.decreases-cutting
decreases-cutting l = l.left
