-- A pixel, how two pixels at one place become one, and the samples that are written for one.
use Rattle.std.specs.Prelude.{ℕ, ◌+◌, ◌-◌, ◌*◌, ◌/◌, ◌≤◌, min, nat_le, Bool, true, false, cond, if◌then◌else◌, IfSome, List, [], ◌∷◌, Option, Some, None}
use Rattle.icet_model.specs.declared.limits.TheConstants.{MAX_CHANNEL, MAX_DEPTH}
use Rattle.icet_model.specs.declared.names.Mode.{Mode}
use Rattle.icet_model.specs.declared.names.Mode.TheVariants.{Depth, Blend, WideBlend}

-- what contracts see of a fragment: premultiplied colour, alpha and depth
pub record FragmentView : Type 0 where
  pub r : ℕ
  pub g : ℕ
  pub b : ℕ
  pub a : ℕ
  pub z : ℕ

-- a channel is at most the alpha, since colour is premultiplied, and the depth within the greatest
pub record IsFragment (f : FragmentView) : Type 0 where
  pub r_within : f.r ≤ f.a
  pub g_within : f.g ≤ f.a
  pub b_within : f.b ≤ f.a
  pub a_within : f.a ≤ MAX_CHANNEL
  pub z_within : f.z ≤ MAX_DEPTH

-- a fragment, or None where nothing was drawn
abbrev pub Pixel : Type 0
Pixel = Option FragmentView

-- the pixel fits samples of one byte
abbrev pub IsNarrow : Pixel → Type 0
IsNarrow pixel = IfSome pixel (λ fragment. fragment.a ≤ 255)

-- the alpha that is opaque, by which blending divides
abbrev pub opaque : Bool → ℕ
opaque wide = if wide then 65535 else 255

-- a channel of the front and, of the back's, as much as the front's alpha lets through, rounded down
abbrev pub blended : ℕ → ℕ → ℕ → ℕ → ℕ
blended most alpha front back = front + back * (most - min alpha most) / most

-- each channel of a fragment over another blended; the front's depth stays
abbrev pub over_by : ℕ → FragmentView → FragmentView → FragmentView
over_by most front back = record {
  r = blended most front.a front.r back.r;
  g = blended most front.a front.g back.g;
  b = blended most front.a front.b back.b;
  a = blended most front.a front.a back.a;
  z = front.z;
}

-- the front over the back, with premultiplied colour: the operator over of Porter and Duff (1984)
abbrev pub over : FragmentView → FragmentView → Bool → FragmentView
over front back wide = over_by (opaque wide) front back

-- two fragments at one place: by depth the nearer one, and the front at equal depth; by blending the
-- front over the back
abbrev pub joined_fragments : Mode → FragmentView → FragmentView → FragmentView
joined_fragments Depth front back = cond (nat_le front.z back.z) front back
joined_fragments Blend front back = over front back false
joined_fragments WideBlend front back = over front back true

-- two pixels at one place: the other where one is None
abbrev pub joined : Mode → Pixel → Pixel → Pixel
joined mode None back = back
joined mode (Some front) None = Some front
joined mode (Some front) (Some back) = Some (joined_fragments mode front back)

-- red, green, blue and alpha
abbrev pub samples_of : FragmentView → List ℕ
samples_of f = f.r ∷ f.g ∷ f.b ∷ f.a ∷ []

-- a fragment before the background: by depth it hides it, by blending it stands over it
abbrev pub finished_fragment : Mode → FragmentView → FragmentView → List ℕ
finished_fragment Depth fragment background = samples_of fragment
finished_fragment Blend fragment background = samples_of (over fragment background false)
finished_fragment WideBlend fragment background = samples_of (over fragment background true)

-- the four samples of a pixel: the background's where there is no fragment
abbrev pub finished : Mode → Pixel → FragmentView → List ℕ
finished mode None background = samples_of background
finished mode (Some fragment) background = finished_fragment mode fragment background

-- what contracts see of a dense image: its width, its height and its pixels, row by row from the top
pub record DenseView : Type 0 where
  pub w : ℕ
  pub h : ℕ
  pub pixels : List Pixel
