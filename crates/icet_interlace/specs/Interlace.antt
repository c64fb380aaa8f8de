-- Interlacing: the pixels of an image dealt out in turn to strands, which then stand one behind the other.
use Rattle.std.specs.Prelude.{◌≡◌, ℕ, ◌+◌, ◌/◌, ◌%◌, ◌<◌, ◌==◌, List, length, filter, get_or, map, None}
use Rattle.std.specs.List.{flat_map, range_with_len, sum_by}
use Rattle.icet_model.specs.Pixel.{Pixel}
use Rattle.icet_model.specs.Run.{Piece}

-- the pixels of strand j of n pixels: those whose number modulo the number of strands is j
abbrev pub strand : ℕ → ℕ → ℕ → List ℕ
strand j n strands = filter (λ i. i % strands == j) (range_with_len 0 n)

-- the position of pixel i of n: behind the strands before its own, and in its own by its turn
abbrev pub place : ℕ → ℕ → ℕ → ℕ
place i n strands = sum_by (λ j. length (strand j n strands)) (range_with_len 0 (i % strands)) + i / strands

-- these pixels dealt out: the strands one behind the other
abbrev pub interlaced : ℕ → List Pixel → List Pixel
interlaced strands pixels = flat_map (λ j. map (λ i. get_or pixels i None) (strand j (length pixels) strands)) (range_with_len 0 strands)

-- the n pixels that stand at these positions, each taken from its own
abbrev pub restored : ℕ → ℕ → List Pixel → List Pixel
restored n strands positions = map (λ i. get_or positions (place i n strands) None) (range_with_len 0 n)

-- an image with its pixels dealt out
abbrev pub interlaced_piece : ℕ → Piece (List Pixel) → Piece (List Pixel)
interlaced_piece strands image = record image { content = interlaced strands image.content }

-- a whole tile's image
pub record IsWhole (p : Piece (List Pixel)) : Type 0 where
  pub from_first : p.lo ≡ 0
  pub size : length p.content ≡ p.hi

-- the second is the first with each pixel at its place
pub record IsInterlaced (strands : ℕ) (image interlaced : Piece (List Pixel)) : Type 0 where
  pub tile : interlaced.tile ≡ image.tile
  pub hi : interlaced.hi ≡ image.hi
  pub whole : IsWhole image
  pub whole_too : IsWhole interlaced
  pub each : (i : ℕ) → i < image.hi → get_or interlaced.content (place i image.hi strands) None ≡ get_or image.content i None
