-- The paints of a span.
use Rattle.std.specs.Prelude.{◌≤◌, List, length}
use Rattle.icet_model.specs.Pixel.{FragmentView}

-- at least one paint, and no more than a row of the display has pixels
pub record IsRun (paints : List FragmentView) : Type 0 where
  pub some : 1 ≤ length paints
  pub within : length paints ≤ 16384
