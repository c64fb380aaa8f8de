-- The line that the notes get for each fault.
use Rattle.std.specs.Prelude.{ℕ, List, [], ◌++◌, codes, decimal}
use Rattle.icet_scene_model.specs.declared.fault.Want.{Want}
use Rattle.icet_scene_model.specs.declared.fault.Want.TheVariants.{Head, Mode, Ranks, Order, Tile, End}
use Rattle.icet_scene_model.specs.declared.fault.SceneFault.{SceneFault}
use Rattle.icet_scene_model.specs.declared.fault.SceneFault.TheVariants.{TooLong, BadByte, BadLine, OutOfPlace, OutOfRange, NotPremultiplied, RankTaken, BadOrder, Missing, TooLarge, NoMemory}

abbrev pub words_line : List ℕ
words_line = codes "icet: words refused\n"

abbrev pub read_line : List ℕ
read_line = codes "icet: read failed\n"

abbrev pub write_line : List ℕ
write_line = codes "icet: write failed\n"

abbrev pub memory_line : List ℕ
memory_line = codes "icet: no memory\n"

-- a line of the scene, and what is wrong with it
abbrev pub at_line : ℕ → List ℕ → List ℕ
at_line line what = (codes "icet: line " ++ decimal line) ++ (codes ": " ++ what)

abbrev pub missing_line : Want → List ℕ
missing_line Head = codes "icet: missing head\n"
missing_line Mode = codes "icet: missing mode\n"
missing_line Ranks = codes "icet: missing ranks\n"
missing_line Order = codes "icet: missing order\n"
missing_line Tile = codes "icet: missing tile\n"
missing_line End = codes "icet: missing end\n"

-- the line of a scene's fault
abbrev pub scene_line : SceneFault → List ℕ
scene_line TooLong = codes "icet: scene longer than 67108864 bytes\n"
scene_line (BadByte line) = at_line line (codes "byte not allowed\n")
scene_line (BadLine line) = at_line line (codes "not a line of the format\n")
scene_line (OutOfPlace line) = at_line line (codes "out of place\n")
scene_line (OutOfRange line) = at_line line (codes "number out of range\n")
scene_line (NotPremultiplied line) = at_line line (codes "colour not premultiplied\n")
scene_line (RankTaken line) = at_line line (codes "display rank already taken\n")
scene_line (BadOrder line) = at_line line (codes "order is not each rank once\n")
scene_line (Missing want) = missing_line want
scene_line TooLarge = codes "icet: scene too large\n"
scene_line NoMemory = memory_line
