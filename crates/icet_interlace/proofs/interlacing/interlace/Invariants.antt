use Rattle.std.proofs.Common.{◌≡◌, ℕ, ◌<◌, length, get_or, None}
use Rattle.icet_interlace.specs.Interlace.{place}
use Rattle.icet_interlace.proofs.interlacing.interlace.Given as goal

abbrev pub invariant-placing : goal.invariant-placing
invariant-placing l = record {
  size : length l.pixels ≡ l.position;
  each : (i : ℕ) → i < l.image.hi → place i l.image.hi l.strands < l.position → get_or l.pixels (place i l.image.hi l.strands) None ≡ get_or l.image.content i None;
}
