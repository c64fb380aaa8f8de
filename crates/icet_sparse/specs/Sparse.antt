-- Pieces.
use Rattle.std.specs.Prelude.{◌≡◌, ◌-◌, ◌<◌, ◌≤◌, ◌^◌, List, length}
use Rattle.icet_model.specs.Pixel.{Pixel}
use Rattle.icet_model.specs.Run.{Piece}

-- a piece has one pixel for each position from lo up to hi, not included
pub record IsPiece (p : Piece (List Pixel)) : Type 0 where
  pub ordered : p.lo ≤ p.hi
  pub size : length p.content ≡ p.hi - p.lo
  pub tile : p.tile < 2 ^ 32
  pub end : p.hi < 2 ^ 32
