-- Which fragment a bracket shows by depth.
use Rattle.std.specs.Prelude.{◌≡◌, ℕ, ◌<◌, List, Some, None, get_or, slice_get, AllPairs}
use Rattle.icet_model.specs.declared.bracket.Bracket.{Bracket}
use Rattle.icet_model.specs.Pixel.{FragmentView, Pixel}
use Rattle.icet_model.specs.Bracket.{Images, leaves, value}
use Rattle.icet_model.specs.declared.names.Mode.TheVariants.{Depth}
use Rattle.icet_model.specs.Composite.{ComesBefore}

-- the ranks of the bracket ascend from the front to the back
abbrev pub HasAscendingLeaves : Bracket → Type 0
HasAscendingLeaves bracket = AllPairs (λ front back. front < back) (leaves bracket)

-- one of the ranks has the fragment, and it comes before each other rank's: the least pair of depth
-- and rank
pub record IsLeastOf (pixel : ℕ → Pixel) (ranks : List ℕ) (fragment : FragmentView) : Type 0 where
  pub place : ℕ
  pub rank : ℕ
  pub among : slice_get ranks place ≡ Some rank
  pub has : pixel rank ≡ Some fragment
  pub least : (k other : ℕ) (g : FragmentView) → slice_get ranks k ≡ Some other → pixel other ≡ Some g → ComesBefore fragment rank g other

-- the images' pixels of a tile's position, by rank
abbrev pub pixels_at : Images → ℕ → ℕ → ℕ → Pixel
pixels_at images t i rank = get_or (images rank t) i None

-- a bracket whose leaves ascend shows the least fragment of its leaves
abbrev pub ShowsTheLeast : Type 0
ShowsTheLeast =
    (images : Images) (bracket : Bracket) (t i : ℕ) (fragment : FragmentView) → HasAscendingLeaves bracket
    → value Depth images bracket t i ≡ Some fragment → IsLeastOf (pixels_at images t i) (leaves bracket) fragment

-- a bracket shows nothing only where no leaf has a fragment
abbrev pub ShowsNoneOfNone : Type 0
ShowsNoneOfNone =
    (images : Images) (bracket : Bracket) (t i k rank : ℕ) → value Depth images bracket t i ≡ None
    → slice_get (leaves bracket) k ≡ Some rank → pixels_at images t i rank ≡ None
