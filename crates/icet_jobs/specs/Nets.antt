-- The images that a net is opened with.
use Rattle.std.specs.Prelude.{List, [], get_or}
use Rattle.icet_model.specs.Pixel.{Pixel}
use Rattle.icet_model.specs.Run.{Piece}
use Rattle.icet_model.specs.Bracket.{Images}
use Rattle.icet_rank.specs.Machine.{content_at}

-- the pixels of each rank's image of each tile; a rank beyond the list is given the first one's
abbrev pub piece_images : List (List (Piece (List Pixel))) → Images
piece_images images r t = content_at (get_or images r (get_or images 0 [])) t
