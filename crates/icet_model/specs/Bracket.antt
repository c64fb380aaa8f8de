-- Brackets: their leaves, their value over images, and the fold from the left.
use Rattle.std.specs.Prelude.{ℕ, List, [], ◌∷◌, ◌++◌, get_or, None}
use Rattle.icet_model.specs.declared.names.Mode.{Mode}
use Rattle.icet_model.specs.declared.bracket.Bracket.{Bracket, Empty, Leaf, Pair', more_of-Bracket}
use Rattle.icet_model.specs.Pixel.{Pixel, joined}

-- the pixels of each rank's image of each tile, by rank, tile and position
abbrev pub Images : Type 0
Images = ℕ → ℕ → List Pixel

-- the ranks of a bracket, from the front to the back
abbrev pub leaves : Bracket → List ℕ
leaves Empty = []
leaves (Leaf r) = r ∷ []
leaves (Pair' s (more_of-Bracket front u) t (more_of-Bracket back v)) = leaves front ++ leaves back

-- the pixel of a tile at a position: a leaf's is its image's, a pair's is the join of its parts'
abbrev pub value : Mode → Images → Bracket → ℕ → ℕ → Pixel
value mode images Empty t i = None
value mode images (Leaf r) t i = get_or (images r t) i None
value mode images (Pair' s (more_of-Bracket front u) v (more_of-Bracket back w)) t i = joined mode (value mode images front t i) (value mode images back t i)
