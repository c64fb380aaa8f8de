-- Tiles for worked examples.
use Rattle.std.specs.Prelude.{ℕ, List}
use Rattle.icet_groups.specs.Tiles.{TileView}

-- a tile of four pixels, shown by a rank, with these contributors
abbrev pub tile : ℕ → List ℕ → TileView
tile display contributors = record { size = 4; display = display; contributors = contributors }
