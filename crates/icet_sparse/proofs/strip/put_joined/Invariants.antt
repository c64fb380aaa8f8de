use Rattle.std.proofs.Common.{◌≡◌, ◌+◌, ◌++◌, length, take}
use Rattle.std.specs.Prelude.{vec_len, vec_capacity}
use Rattle.icet_sparse.specs.Joined.{joined_places}
use Rattle.icet_sparse.proofs.strip.put_joined.Given as goal

abbrev pub invariant-loop-i : goal.invariant-loop-i
invariant-loop-i l = record {
  items : l.fragments.items ≡ l.initial.fragments.items ++ joined_places l.mode (take l.i l.front) (take l.i l.back);
  size : vec_len l.fragments ≡ vec_len l.initial.fragments + l.i;
  room : vec_capacity l.fragments ≡ vec_capacity l.initial.fragments;
}
