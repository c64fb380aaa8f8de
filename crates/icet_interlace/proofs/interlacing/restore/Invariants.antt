use Rattle.std.proofs.Common.{◌≡◌, ℕ, ◌<◌, length, get_or, None}
use Rattle.icet_interlace.specs.Interlace.{place}
use Rattle.icet_interlace.proofs.interlacing.restore.Given as goal

abbrev pub invariant-restoring : goal.invariant-restoring
invariant-restoring l = record {
  size : length l.pixels ≡ l.i;
  each : (i : ℕ) → i < l.i → get_or l.image.content (place i l.image.hi l.strands) None ≡ get_or l.pixels i None;
}
