-- Lists of pixels kept as runs: how many are blank, how many behind them are drawn, and the fragments of these.
use Rattle.std.specs.Prelude.{◌≡◌, ℕ, zero, suc, ◌+◌, ◌*◌, ◌<◌, ◌^◌, Bool, true, false, List, [], ◌∷◌, ◌++◌, length, take, drop, map, replicate, Some, None}
use Rattle.std.specs.List.{All}
use Rattle.icet_model.specs.Pixel.{Pixel, FragmentView}
use Rattle.icet_sparse.specs.declared.run.Run.{Run}

-- how many drawn pixels the runs have
abbrev pub drawn_in : List Run → ℕ
drawn_in [] = 0
drawn_in (r ∷ rs) = r.drawn + drawn_in rs

-- the pixels of the runs: of each first the blank ones, and then the drawn ones, whose fragments stand in a row
abbrev pub run_pixels : List Run → List FragmentView → List Pixel
run_pixels [] fs = []
run_pixels (r ∷ rs) fs = replicate r.blank None ++ (map Some (take r.drawn fs) ++ run_pixels rs (drop r.drawn fs))

-- the pixels of the runs, and so many blank ones behind the last
abbrev pub strip_pixels : List Run → List FragmentView → ℕ → List Pixel
strip_pixels rs fs behind = run_pixels rs fs ++ replicate behind None

-- the runs have these fragments, each has a drawn pixel, and blank ones stand between two of them
pub record IsCanonical (rs : List Run) (fs : List FragmentView) : Type 0 where
  pub counted : drawn_in rs ≡ length fs
  pub drawn : All (λ r. 0 < r.drawn) rs
  pub apart : All (λ r. 0 < r.blank) (drop 1 rs)

-- the runs with so many more pixels, first blank and then drawn ones: where none is blank they lengthen the last run
abbrev pub lengthened : List Run → ℕ → ℕ → List Run
lengthened [] blank drawn = record { blank = blank; drawn = drawn } ∷ []
lengthened (r ∷ []) zero drawn = record { blank = r.blank; drawn = r.drawn + drawn } ∷ []
lengthened (r ∷ []) (suc blank) drawn = r ∷ record { blank = suc blank; drawn = drawn } ∷ []
lengthened (r ∷ s ∷ rs) blank drawn = r ∷ lengthened (s ∷ rs) blank drawn

-- how many maximal runs of drawn pixels the list has; `inside` says that a drawn one stands before it
abbrev pub run_count : Bool → List Pixel → ℕ
run_count inside [] = 0
run_count inside (None ∷ ps) = run_count false ps
run_count true (Some f ∷ ps) = run_count true ps
run_count false (Some f ∷ ps) = suc (run_count true ps)

-- the fragments of the drawn pixels
abbrev pub fragments_of : List Pixel → List FragmentView
fragments_of [] = []
fragments_of (None ∷ ps) = fragments_of ps
fragments_of (Some f ∷ ps) = f ∷ fragments_of ps

-- what the list weighs: 8 for each maximal run of drawn pixels, and 8 for each drawn pixel
abbrev pub weight_of : List Pixel → ℕ
weight_of ps = 8 * run_count false ps + 8 * length (fragments_of ps)

-- the runs are the one form of a list of fewer than 2^32 pixels
pub record IsStrip (rs : List Run) (fs : List FragmentView) (behind : ℕ) : Type 0 where
  pub canonical : IsCanonical rs fs
  pub short : length (strip_pixels rs fs behind) < 2 ^ 32

-- the fragments are those of what is left of a run and of the runs behind it
pub record AreLeft (under_way : Run) (later : List Run) (fs : List FragmentView) : Type 0 where
  pub counted : under_way.drawn + drawn_in later ≡ length fs
  pub drawn_each : All (λ r. 0 < r.drawn) later

-- what is left is the same, and the run under way has a pixel where there is any
pub record Begins (old : Run) (olds : List Run) (old_behind : ℕ) (new : Run) (news : List Run) (behind : ℕ) : Type 0 where
  pub pixels : (fs : List FragmentView) → strip_pixels (new ∷ news) fs behind ≡ strip_pixels (old ∷ olds) fs old_behind
  pub counted : new.drawn + drawn_in news ≡ old.drawn + drawn_in olds
  pub drawn_each : All (λ r. 0 < r.drawn) news
  pub some : (fs : List FragmentView) → 0 < length (strip_pixels (new ∷ news) fs behind) → 0 < new.blank + new.drawn
