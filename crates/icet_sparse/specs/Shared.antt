-- Fragments that several lists of pixels share, and the runs of a list.
use Rattle.std.specs.Prelude.{◌≡◌, ℕ, zero, suc, ◌+◌, ◌<◌, ◌^◌, List, [], Option, Some, None}
use Rattle.std.specs.Arc.{arc_slice_items}
use Rattle.std.specs.declared.sync.ArcSlice.{ArcSlice}
use Rattle.icet_model.specs.Pixel.{Pixel, FragmentView}
use Rattle.icet_sparse.specs.declared.run.Run.{Run}
use Rattle.icet_sparse.specs.Runs.{strip_pixels, fragments_of, lengthened, IsCanonical}

-- the fragments of the list that is held
abbrev pub held_items : {Z : Type 0} → Option (ArcSlice FragmentView Z) → List FragmentView
held_items None = []
held_items (Some held) = arc_slice_items held

-- the runs with so many more pixels, first blank and then drawn ones, and the blank ones behind the last run
abbrev pub runs_with : List Run → ℕ → ℕ → List Run
runs_with rs blank zero = rs
runs_with rs blank (suc n) = lengthened rs blank (suc n)

abbrev pub behind_with : ℕ → ℕ → ℕ
behind_with blank zero = blank
behind_with blank (suc n) = 0

-- the runs are those of the pixels, with so many blank ones behind the last
pub record AreRunsOf (rs : List Run) (behind : ℕ) (ps : List Pixel) : Type 0 where
  pub pixels : strip_pixels rs (fragments_of ps) behind ≡ ps
  pub canonical : IsCanonical rs (fragments_of ps)
