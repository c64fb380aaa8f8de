-- The plain composite: what the picture of a tile shows, with no strategy, plan or ring in it.
use Rattle.std.specs.Prelude.{◌≡◌, ℕ, ◌<◌, ◌≤◌, nat_le, cond, List, [], ◌∷◌, map, get_or, Some, None, slice_get, ◌⊎◌}
use Rattle.std.specs.List.{range_with_len}
use Rattle.icet_model.specs.declared.names.Mode.{Mode}
use Rattle.icet_model.specs.declared.names.Mode.TheVariants.{Depth, Blend, WideBlend}
use Rattle.icet_model.specs.declared.bracket.Bracket.{Bracket}
use Rattle.icet_model.specs.Pixel.{FragmentView, Pixel}
use Rattle.icet_model.specs.Bracket.{Images, value}

-- the nearer of a fragment and what is behind it, the first at equal depth
abbrev pub nearer : FragmentView → Pixel → FragmentView
nearer first None = first
nearer first (Some other) = cond (nat_le first.z other.z) first other

-- of the ranks' pixels at one place, listed by rank, the fragment of least depth, and of these the
-- one of the lowest rank; None where no rank has one
abbrev pub nearest : List Pixel → Pixel
nearest [] = None
nearest (None ∷ pixels) = nearest pixels
nearest (Some fragment ∷ pixels) = Some (nearer fragment (nearest pixels))

-- the fragment f of rank r comes before the fragment g of rank q: it is nearer, or as near and of a
-- rank that isn't higher
abbrev pub ComesBefore : FragmentView → ℕ → FragmentView → ℕ → Type 0
ComesBefore f r g q = (f.z < g.z) ⊎ ((f.z ≡ g.z) × (r ≤ q))

-- rank r has the fragment, and it comes before each rank's: the least pair of depth and rank
pub record IsLeast (pixels : List Pixel) (fragment : FragmentView) (r : ℕ) : Type 0 where
  pub has : slice_get pixels r ≡ Some (Some fragment)
  pub least : (q : ℕ) (g : FragmentView) → slice_get pixels q ≡ Some (Some g) → ComesBefore fragment r g q

-- the pixels of all ranks at one place; `images` has each rank's image of the tile, by rank
abbrev pub column : List (List Pixel) → ℕ → List Pixel
column images i = map (λ image. get_or image i None) images

-- the same images, of this tile whatever its number
abbrev pub images_by_rank : List (List Pixel) → Images
images_by_rank images rank tile = get_or images rank []

-- the pixel of a tile at a place: by depth the nearest of all ranks' pixels, with no bracket in it; by
-- blending the value of the tile's bracket, since the order of the joins shows
abbrev pub plain_pixel : Mode → Bracket → List (List Pixel) → ℕ → Pixel
plain_pixel Depth bracket images i = nearest (column images i)
plain_pixel Blend bracket images i = value Blend (images_by_rank images) bracket 0 i
plain_pixel WideBlend bracket images i = value WideBlend (images_by_rank images) bracket 0 i

-- the composite of the ranks' full images of a tile with this bracket and so many pixels
abbrev pub plain_composite : Mode → Bracket → List (List Pixel) → ℕ → List Pixel
plain_composite mode bracket images size = map (plain_pixel mode bracket images) (range_with_len 0 size)

-- the nearest of pixels is the least pair of depth and rank, and none only where there is none
abbrev pub NearestIsLeast : Type 0
NearestIsLeast = (pixels : List Pixel) (fragment : FragmentView) → nearest pixels ≡ Some fragment → (r : ℕ) × IsLeast pixels fragment r

abbrev pub NearestIsNoneOfNone : Type 0
NearestIsNoneOfNone = (pixels : List Pixel) → nearest pixels ≡ None → (q : ℕ) (pixel : Pixel) → slice_get pixels q ≡ Some pixel → pixel ≡ None
