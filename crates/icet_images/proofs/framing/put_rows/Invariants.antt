use Rattle.std.proofs.Common.{◌≡◌, ◌+◌, ◌*◌, ◌++◌, length}
use Rattle.icet_images.specs.Images.{framed_rows}
use Rattle.icet_images.proofs.framing.put_rows.Given as goal

abbrev pub invariant-loop-row : goal.invariant-loop-row
invariant-loop-row l = record {
  pixels : l.strip ≡ l.initial.strip ++ framed_rows l.margins l.row l.pixels;
  size : length l.strip ≡ length l.initial.strip + l.row * (l.margins.left + l.margins.width + l.margins.right);
}
