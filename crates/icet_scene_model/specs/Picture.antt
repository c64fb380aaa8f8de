-- The picture text: a file in the Netpbm format PAM (magic number P7), with premultiplied colour.
use Rattle.std.specs.Prelude.{ℕ, ◌/◌, ◌%◌, Bool, true, false, List, [], ◌∷◌, ◌++◌, min, codes, decimal}
use Rattle.std.specs.List.{flat_map}
use Rattle.icet_model.specs.declared.names.Mode.{Mode}
use Rattle.icet_model.specs.Pixel.{FragmentView, Pixel, finished}
use Rattle.icet_scene_model.specs.declared.limits.TheConstants.{NARROW_CHANNEL, WIDE_CHANNEL}

-- the header's lines behind the size, which name the greatest sample
abbrev pub header_end : Bool → List ℕ
header_end false = codes "\nDEPTH 4\nMAXVAL 255\nTUPLTYPE RGB_ALPHA\nENDHDR\n"
header_end true = codes "\nDEPTH 4\nMAXVAL 65535\nTUPLTYPE RGB_ALPHA\nENDHDR\n"

-- the header lines, each ended by a newline; a picture is wide where its samples have 16 bits
abbrev pub header : Bool → ℕ → ℕ → List ℕ
header wide w h = (codes "P7\nWIDTH " ++ decimal w) ++ ((codes "\nHEIGHT " ++ decimal h) ++ header_end wide)

-- a sample: in one byte, or in two of which the more significant is the first; at most the greatest
abbrev pub sample_bytes : Bool → ℕ → List ℕ
sample_bytes false sample = min sample NARROW_CHANNEL ∷ []
sample_bytes true sample = min sample WIDE_CHANNEL / 256 ∷ min sample WIDE_CHANNEL % 256 ∷ []

-- red, green, blue and alpha of a pixel
abbrev pub pixel_bytes : Bool → Mode → FragmentView → Pixel → List ℕ
pixel_bytes wide mode background pixel = flat_map (sample_bytes wide) (finished mode pixel background)

-- the pixels, row by row from the top
abbrev pub pixels_bytes : Bool → Mode → FragmentView → List Pixel → List ℕ
pixels_bytes wide mode background pixels = flat_map (pixel_bytes wide mode background) pixels

abbrev pub picture_text : Bool → Mode → FragmentView → ℕ → ℕ → List Pixel → List ℕ
picture_text wide mode background w h pixels = header wide w h ++ pixels_bytes wide mode background pixels
