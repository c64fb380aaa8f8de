use Rattle.std.proofs.Common.{◌≡◌, ◌+◌, ◌-◌, ◌++◌, length}
use Rattle.icet_merge.specs.Merge.{zip_joined}
use Rattle.icet_merge.proofs.joining.merge.Given as goal

abbrev pub invariant-merging : goal.invariant-merging
invariant-merging l = record {
  pixels : l.pixels ++ zip_joined l.mode l.above l.below ≡ zip_joined l.mode l.front.content l.back.content;
  above : length l.above ≡ l.left;
  below : length l.below ≡ l.left;
  room : length l.pixels + l.left ≡ l.front.hi - l.front.lo;
}

abbrev pub decreases-merging : goal.decreases-merging
decreases-merging l = l.left
