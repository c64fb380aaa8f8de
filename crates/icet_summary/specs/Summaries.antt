-- The text of a summary: a line for each picture, and one for the weight of the images that were joined. All numbers are
-- decimal; each line ends with a newline.
use Rattle.std.specs.Prelude.{ℕ, ◌+◌, Bool, List, [], ◌++◌, min, get_or, length, codes, decimal, Some, None}
use Rattle.std.specs.List.{flat_map, range_with_len, sum_by}
use Rattle.icet_model.specs.declared.names.Mode.{Mode}
use Rattle.icet_model.specs.Pixel.{DenseView, FragmentView, Pixel, finished}
use Rattle.icet_scene_model.specs.Lawful.{greatest_channel}
use Rattle.icet_summary.specs.declared.tally.Tally.{Tally}

-- how pictures are handed out: whether samples have 16 bits, the mode, and the background
pub record Finish : Type 0 where
  pub wide : Bool
  pub mode : Mode
  pub background : FragmentView

abbrev pub finish : Bool → Mode → FragmentView → Finish
finish wide mode background = record { wide = wide; mode = mode; background = background }

-- 1 where nothing was drawn
abbrev pub blank_of : Pixel → ℕ
blank_of None = 1
blank_of (Some fragment) = 0

-- one of a pixel's four samples, as the picture text has it
abbrev pub sample_of : Finish → ℕ → Pixel → ℕ
sample_of f k pixel = min (get_or (finished f.mode pixel f.background) k 0) (greatest_channel f.wide)

-- what is counted of pixels: those where nothing was drawn, and the sum of each sample
abbrev pub tally_of : Finish → List Pixel → Tally
tally_of f pixels = record {
  blank = sum_by blank_of pixels;
  red = sum_by (sample_of f 0) pixels;
  green = sum_by (sample_of f 1) pixels;
  blue = sum_by (sample_of f 2) pixels;
  alpha = sum_by (sample_of f 3) pixels;
}

-- a number behind a space
abbrev pub spaced : ℕ → List ℕ
spaced n = codes " " ++ decimal n

-- a tile's number, its width and its height
abbrev pub tile_words : ℕ → ℕ → ℕ → List ℕ
tile_words t w h = (codes "tile " ++ decimal t) ++ (spaced w ++ spaced h)

-- what is counted of a tile's picture, up to the end of the line
abbrev pub tally_words : Tally → List ℕ
tally_words tally = (spaced tally.blank ++ (spaced tally.red ++ spaced tally.green)) ++ ((spaced tally.blue ++ spaced tally.alpha) ++ codes "\n")

abbrev pub tile_line : Finish → ℕ → DenseView → List ℕ
tile_line f t picture = tile_words t picture.w picture.h ++ tally_words (tally_of f picture.pixels)

-- what stands for a picture that a list doesn't have
abbrev pub no_picture : DenseView
no_picture = record { w = 0; h = 0; pixels = [] }

-- the line of tile t
abbrev pub line_at : Finish → List DenseView → ℕ → List ℕ
line_at f pictures t = tile_line f t (get_or pictures t no_picture)

abbrev pub tile_lines : Finish → List DenseView → List ℕ
tile_lines f pictures = flat_map (line_at f pictures) (range_with_len 0 (length pictures))

abbrev pub summary_text : Finish → List DenseView → ℕ → List ℕ
summary_text f pictures weight = tile_lines f pictures ++ ((codes "weight " ++ decimal weight) ++ codes "\n")
