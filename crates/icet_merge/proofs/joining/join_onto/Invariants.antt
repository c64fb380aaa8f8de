use Rattle.std.proofs.Common.{◌≡◌, ◌+◌, ◌<◌, ◌≤◌, ◌^◌, ◌++◌, length, map, take, drop, Some}
use Rattle.icet_merge.specs.Merge.{zip_joined}
use Rattle.icet_merge.proofs.joining.join_onto.Given as goal

abbrev pub invariant-joining : goal.invariant-joining
invariant-joining l = record {
  pixels : l.pixels ++ zip_joined l.mode (map Some l.rest) (take (length l.rest) l.back) ≡ l.initial.pixels ++ zip_joined l.mode (map Some l.front) (take (length l.front) l.initial.back);
  behind : drop (length l.rest) l.back ≡ drop (length l.front) l.initial.back;
  within : length l.rest ≤ length l.back;
  room : length l.pixels + length l.rest < 2 ^ 32;
}

abbrev pub decreases-joining : goal.decreases-joining
decreases-joining l = length l.rest
