-- Pictures that are read: what a picture is, the text that says it, and which bytes begin with such a text.
use Rattle.std.specs.Prelude.{ℕ, ◌≡◌, ◌≤◌, ◌*◌, Bool, List, ◌++◌, All, length, map, min, take}
use Rattle.std.specs.List.{flat_map}
use Rattle.icet_model.specs.declared.limits.TheConstants.{MAX_SIDE}
use Rattle.icet_model.specs.declared.names.Mode.{Mode}
use Rattle.icet_model.specs.Pixel.{FragmentView, Pixel, finished}
use Rattle.icet_scene_model.specs.Lawful.{greatest_channel}
use Rattle.icet_scene_model.specs.Picture.{header, picture_text, sample_bytes}
use Rattle.icet_scene_model.specs.Scene.{is_wide}

-- width and height in pixels, the greatest sample, and four samples a pixel, row by row from the top
pub record PictureView : Type 0 where
  pub w : ℕ
  pub h : ℕ
  pub maxval : ℕ
  pub samples : List ℕ

-- the samples in bytes, one or two for each
abbrev pub samples_bytes : Bool → List ℕ → List ℕ
samples_bytes wide samples = flat_map (sample_bytes wide) samples

abbrev pub picture_bytes : PictureView → List ℕ
picture_bytes p = header (is_wide p.maxval) p.w p.h ++ samples_bytes (is_wide p.maxval) p.samples

-- a width or a height that a picture may have
pub record IsPictureSide (side : ℕ) : Type 0 where
  pub least : 1 ≤ side
  pub greatest : side ≤ MAX_SIDE

-- the greatest sample is one of two, and there are four samples a pixel, none above the greatest
pub record IsReadable (p : PictureView) : Type 0 where
  pub width : IsPictureSide p.w
  pub height : IsPictureSide p.h
  pub maxval : p.maxval ≡ greatest_channel (is_wide p.maxval)
  pub count : length p.samples ≡ 4 * (p.w * p.h)
  pub within : All (λ sample. sample ≤ p.maxval) p.samples

-- the first `count` bytes are the picture's text
pub record BeginsWith (bytes : List ℕ) (p : PictureView) (count : ℕ) : Type 0 where
  pub readable : IsReadable p
  pub within : count ≤ length bytes
  pub text : take count bytes ≡ picture_bytes p

-- the bytes begin with no picture's text
abbrev pub BeginsWithNone : List ℕ → Type 0
BeginsWithNone bytes = (p : PictureView) (count : ℕ) → BeginsWith bytes p count → ⊥

-- the samples of a finished pixel, none above the greatest
abbrev pub pixel_samples : Bool → Mode → FragmentView → Pixel → List ℕ
pixel_samples wide mode background pixel = map (λ sample. min sample (greatest_channel wide)) (finished mode pixel background)

-- a picture that is drawn: how its samples are written, how its pixels are finished, its size and its pixels
pub record DrawnPicture : Type 0 where
  pub wide : Bool
  pub mode : Mode
  pub background : FragmentView
  pub w : ℕ
  pub h : ℕ
  pub pixels : List Pixel

pub record IsDrawn (d : DrawnPicture) : Type 0 where
  pub width : IsPictureSide d.w
  pub height : IsPictureSide d.h
  pub count : length d.pixels ≡ d.w * d.h

-- the text that is written of it
abbrev pub drawn_text : DrawnPicture → List ℕ
drawn_text d = picture_text d.wide d.mode d.background d.w d.h d.pixels

-- the picture that this text says
abbrev pub drawn_picture : DrawnPicture → PictureView
drawn_picture d = record {
  w = d.w;
  h = d.h;
  maxval = greatest_channel d.wide;
  samples = flat_map (pixel_samples d.wide d.mode d.background) d.pixels;
}
