use Rattle.std.proofs.Common.{◌≡◌, ◌+◌, ◌<◌, ◌≤◌, ◌^◌, ◌++◌, length, take, drop}
use Rattle.icet_sparse.proofs.strip.Strip.append.Given as goal

abbrev pub invariant-copying : goal.invariant-copying
invariant-copying l = record {
  pixels : l.self ++ take l.left l.walk ≡ l.initial.self ++ take l.initial.left l.initial.walk;
  rest : drop l.left l.walk ≡ drop l.initial.left l.initial.walk;
  within : l.left ≤ length l.walk;
  room : length l.self + l.left < 2 ^ 32;
}

abbrev pub decreases-copying : goal.decreases-copying
decreases-copying l = l.left
