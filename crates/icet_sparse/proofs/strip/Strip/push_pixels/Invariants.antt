use Rattle.std.proofs.Common.{◌≡◌, ◌++◌, take}
use Rattle.icet_sparse.proofs.strip.Strip.push_pixels.Given as goal

abbrev pub invariant-loop-pixel : goal.invariant-loop-pixel
invariant-loop-pixel l = l.self ≡ l.initial.self ++ take l.pixel-index l.pixels
