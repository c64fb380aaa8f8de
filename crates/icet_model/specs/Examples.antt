-- Small values for the examples of the definitions.
use Rattle.std.specs.Prelude.{ℕ, ◌-◌, List, [], ◌∷◌, Some, None, codes}
use Rattle.icet_model.specs.declared.exchange.Kind.TheVariants.{Send, Take}
use Rattle.icet_model.specs.declared.exchange.Exchange.{Exchange}
use Rattle.icet_model.specs.Pixel.{FragmentView, Pixel}
use Rattle.icet_model.specs.declared.bracket.Bracket.{Bracket}
use Rattle.icet_model.specs.declared.bracket.Bracket.TheVariants.{Leaf, Pair}
use Rattle.icet_model.specs.Bracket.{Images}

-- an opaque grey of this level at this depth
abbrev pub grey : ℕ → ℕ → FragmentView
grey level z = record { r = level; g = level; b = level; a = 255; z = z }

-- red premultiplied by the alpha, at depth 0
abbrev pub red : ℕ → ℕ → FragmentView
red level alpha = record { r = level; g = 0; b = 0; a = alpha; z = 0 }

-- the images of three ranks of one pixel: two that are half transparent, and an opaque one
abbrev pub three_reds : List (List Pixel)
three_reds = (Some (red 0 128) ∷ []) ∷ (Some (red 1 128) ∷ []) ∷ (Some (red 100 255) ∷ []) ∷ []

-- rank 1 sends one position to rank 0
abbrev pub one_message : List (List Exchange)
one_message =
    (record { round = 0; kind = Take; peer = 1; tile = 0; lo = 0; hi = 1 } ∷ [])
    ∷ (record { round = 0; kind = Send; peer = 0; tile = 0; lo = 0; hi = 1 } ∷ [])
    ∷ []

-- two tiles of one position, which two ranks join one after the other, each showing one of them: rank 1
-- sends its parts, then rank 0 sends what it joined of tile 1
abbrev pub two_tiles : List (List Exchange)
two_tiles =
    (record { round = 0; kind = Take; peer = 1; tile = 0; lo = 0; hi = 1 } ∷ record { round = 2; kind = Take; peer = 1; tile = 1; lo = 0; hi = 1 } ∷ record { round = 3; kind = Send; peer = 1; tile = 1; lo = 0; hi = 1 } ∷ [])
    ∷ (record { round = 0; kind = Send; peer = 0; tile = 0; lo = 0; hi = 1 } ∷ record { round = 2; kind = Send; peer = 0; tile = 1; lo = 0; hi = 1 } ∷ record { round = 3; kind = Take; peer = 0; tile = 1; lo = 0; hi = 1 } ∷ [])
    ∷ []

-- no rank has made an exchange yet
abbrev pub at_start : List ℕ
at_start = 0 ∷ 0 ∷ []

abbrev pub one_message_lines : List ℕ
one_message_lines = codes "0 stalled\n1 moved\n0 moved\n1 done\n0 done\nfinished\n"

abbrev pub two_tiles_schedule : List ℕ
two_tiles_schedule = 0 ∷ 1 ∷ 1 ∷ 0 ∷ 0 ∷ 1 ∷ 0 ∷ 0 ∷ 0 ∷ 1 ∷ 1 ∷ []

abbrev pub two_tiles_lines : List ℕ
two_tiles_lines = codes "0 stalled\n1 moved\n1 stalled\n0 moved\n0 stalled\n1 moved\n0 moved\n0 moved\n0 done\n1 moved\n1 done\nfinished\n"

-- images of one and of two pixels
abbrev pub one_pixel : ℕ → ℕ → List Pixel
one_pixel level z = Some (grey level z) ∷ []

abbrev pub blank_image : List Pixel
blank_image = None ∷ None ∷ []

-- the first rank has nothing, and each of two others is the nearer one at one of the two pixels
abbrev pub three_images : List (List Pixel)
three_images = blank_image ∷ (Some (grey 1 9) ∷ Some (grey 1 3) ∷ []) ∷ (Some (grey 2 4) ∷ None ∷ []) ∷ []

-- each rank has one pixel at the same depth
abbrev pub equally_near : Images
equally_near rank tile = one_pixel rank 7

-- each rank has a blank pixel and one that is the nearer the higher its rank
abbrev pub later_are_nearer : Images
later_are_nearer rank tile = None ∷ one_pixel rank (9 - rank)

abbrev pub last_two_tie : List (List Pixel)
last_two_tie = one_pixel 1 9 ∷ one_pixel 2 5 ∷ one_pixel 3 5 ∷ []

abbrev pub cut_short_lines : List ℕ
cut_short_lines = codes "0 stalled\n2 absent\nunfinished 0\n"

-- three ranks, of which the front two, or the back two, are joined first
abbrev pub from_the_front : Bracket
from_the_front = Pair (Pair (Leaf 0) (Leaf 1)) (Leaf 2)

abbrev pub from_the_back : Bracket
from_the_back = Pair (Leaf 0) (Pair (Leaf 1) (Leaf 2))
