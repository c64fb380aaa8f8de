use Rattle.std.proofs.Common.{◌≡◌, ◌+◌, ◌++◌, length}
use Rattle.icet_interlace.proofs.interlacing.cells_of.Given as goal

abbrev pub invariant-walking : goal.invariant-walking
invariant-walking l = record {
  pixels : l.cells.items ++ l.walk ≡ l.image.content;
  left : length l.walk + l._position ≡ l.image.hi;
}
