-- Brackets over a list of leaves.
use Rattle.std.specs.Prelude.{List, [], ◌∷◌}
use Rattle.icet_model.specs.declared.bracket.Bracket.{Bracket}
use Rattle.icet_model.specs.declared.bracket.Bracket.TheVariants.{Empty, Pair}

-- each further leaf is the back of a new pair
abbrev pub left_from : Bracket → List Bracket → Bracket
left_from front [] = front
left_from front (leaf ∷ leaves) = left_from (Pair front leaf) leaves

-- the fold from the left: over A, B and C it is ((A B) C), over one leaf that leaf, over none the empty one
abbrev pub left : List Bracket → Bracket
left [] = Empty
left (leaf ∷ leaves) = left_from leaf leaves
