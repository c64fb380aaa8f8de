-- The definitions' pictures for those of the code.
use Rattle.std.specs.Prelude.{ℕ, ◌≡◌, ◌*◌, ◌≤◌, Bool, false, true, All, List}
use Rattle.icet_scene_model.specs.Lawful.{greatest_channel}
use Rattle.icet_scene_model.specs.ReadPicture.{PictureView, samples_bytes}
use Rattle.icet_pam.specs.declared.heading.Shape.{Shape}
use Rattle.icet_pam.specs.declared.reading.Picture.{Picture}

abbrev pub picture_view : Picture → PictureView
picture_view p = record { w = p.w; h = p.h; maxval = p.maxval; samples = p.samples.items }

-- how many bytes a sample takes
abbrev pub sample_size : Bool → ℕ
sample_size false = 1
sample_size true = 2

-- how many bytes the samples of a picture take
abbrev pub samples_size : Shape → ℕ
samples_size shape = sample_size shape.wide * (4 * (shape.w * shape.h))

-- the samples that these bytes say, none above the greatest
pub record AreSamplesOf (wide : Bool) (bytes samples : List ℕ) : Type 0 where
  pub text : samples_bytes wide samples ≡ bytes
  pub within : All (λ sample. sample ≤ greatest_channel wide) samples
