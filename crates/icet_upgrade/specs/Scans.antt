-- A row of the display that is looked at column by column, and the spans that are found in it.
use Rattle.std.specs.Prelude.{◌≡◌, ℕ, ◌+◌, ◌-◌, ◌≤◌, List, [], ◌++◌, All, length, map, Some}
use Rattle.icet_model.specs.declared.limits.TheConstants.{MAX_PLACE, MAX_SIDE}
use Rattle.icet_model.specs.Pixel.{Pixel}
use Rattle.icet_raster.specs.declared.shape.Shape.{Shape}
use Rattle.icet_raster.specs.Shapes.{IsInRange}
use Rattle.icet_scene.specs.Lines.{placed_of}
use Rattle.icet_scene_model.specs.Ready.{stretch_span, stretches}
use Rattle.icet_scene_model.specs.Scene.{Placed}
use Rattle.icet_upgrade.specs.declared.scan.Scan.{Scan}

-- the scan stands in a row of the display, and its run right before the next column
pub record IsScan (scan : Scan) : Type 0 where
  pub row : scan.y ≤ MAX_PLACE
  pub column : scan.next ≤ MAX_SIDE
  pub run : length scan.run.items ≤ scan.next

-- the spans that are there in the end, where these pixels are still to come
abbrev pub in_the_end : Scan → List (ℕ × Shape) → List Pixel → List Placed
in_the_end scan spans coming = map placed_of spans ++ map (stretch_span scan.rank scan.y) (stretches (scan.next - length scan.run.items) (map Some scan.run.items ++ coming))

-- these shapes were put behind those that were there
pub record Adds (old new : List (ℕ × Shape)) (more : List Placed) : Type 0 where
  pub grown : map placed_of new ≡ map placed_of old ++ more
  pub in_range : All (λ shape. IsInRange shape.1) old → All (λ shape. IsInRange shape.1) new

-- the run is ended: its span is put behind the spans
pub record EndsRun (old : Scan) (before : List (ℕ × Shape)) (new : Scan) (after : List (ℕ × Shape)) : Type 0 where
  pub rank : new.rank ≡ old.rank
  pub row : new.y ≡ old.y
  pub next : new.next ≡ old.next
  pub run : new.run.items ≡ []
  pub spans : Adds before after (map (stretch_span old.rank old.y) (stretches (old.next - length old.run.items) (map Some old.run.items)))

-- the scan went over these pixels
pub record Passes (old : Scan) (before : List (ℕ × Shape)) (new : Scan) (after : List (ℕ × Shape)) (pixels : List Pixel) : Type 0 where
  pub scan : IsScan new
  pub row : new.y ≡ old.y
  pub next : new.next ≡ old.next + length pixels
  pub spans : (coming : List Pixel) → in_the_end new after coming ≡ in_the_end old before (pixels ++ coming)
  pub in_range : All (λ shape. IsInRange shape.1) before → All (λ shape. IsInRange shape.1) after
