-- What the code keeps of a line, for what the definitions say.
use Rattle.std.specs.Prelude.{◌≡◌, ℕ, ◌≤◌, ◌+◌, ◌-◌, List, [], ◌∷◌, length, Result, Ok, Err, Option, Some, None, Bool, false, ◌==◌, ◌≢◌, All, nat_le, cond}
use Rattle.std.specs.List.{list_all}
use Rattle.icet_text.specs.declared.field.Number.{Number}
use Rattle.icet_text.specs.Numbers.{size_at}
use Rattle.icet_model.specs.declared.limits.TheConstants.{MAX_DEPTH, MAX_PLACE, MAX_SIDE}
use Rattle.icet_model.specs.Pixel.{FragmentView}
use Rattle.icet_model.specs.Tiles.{IsTileArea}
use Rattle.icet_tiles.specs.Contributors.{HasEachOnce}
use Rattle.icet_tiles.specs.Layouts.{tile_view}
use Rattle.icet_raster.specs.declared.shape.Shape.{Shape}
use Rattle.icet_raster.specs.Shapes.{drawing_of, IsInRange}
use Rattle.icet_scene_model.specs.Lawful.{greatest_channel, IsPaint, IsPainted}
use Rattle.icet_scene_model.specs.Scene.{is_wide, Said, HeadIs, ModeIs, RanksAre, MaxvalIs, BackgroundIs, OrderIs, TileIs, Draws, EndIs, Placed}
use Rattle.icet_scene_model.specs.SceneLines.{LineReading, Skipped, Says, Faulty, is_premultiplied, paint_at, corner_at}
use Rattle.icet_scene_model.specs.declared.fault.LineFault.{LineFault}
use Rattle.icet_scene_model.specs.declared.fault.LineFault.TheVariants.{BadByte, BadLine, OutOfPlace, OutOfRange, NotPremultiplied, RankTaken, BadOrder, NoMemory}
use Rattle.icet_tiles.specs.declared.layout.Tile.{Tile}
use Rattle.icet_scene_model.specs.Triangles.{Triangle}
use Rattle.icet_scene.specs.declared.line.Line.{Line}
use Rattle.icet_scene.specs.declared.line.Line.TheVariants.{Head, Mode, Ranks, Maxval, Background, Order, Tile as TileLine, Shape as ShapeLine, End}

abbrev pub placed_of : ℕ × Shape → Placed
placed_of shape = record { rank = shape.0; shape = drawing_of shape.1 }

abbrev pub said_of : Line → Said
said_of (Head version) = HeadIs version
said_of (Mode blends) = ModeIs blends
said_of (Ranks count) = RanksAre count
said_of (Maxval greatest) = MaxvalIs greatest
said_of (Background paint) = BackgroundIs paint
said_of (Order ranks) = OrderIs ranks.items
said_of (TileLine tile) = TileIs (tile_view tile)
said_of (ShapeLine rank shape) = Draws (placed_of (rank, shape))
said_of End = EndIs

-- the fault is the reading's; want of memory may come with any
abbrev pub IsFaultOf : LineFault → LineReading → Type 0
IsFaultOf BadByte reading = reading ≡ Faulty BadByte
IsFaultOf BadLine reading = reading ≡ Faulty BadLine
IsFaultOf OutOfPlace reading = reading ≡ Faulty OutOfPlace
IsFaultOf OutOfRange reading = reading ≡ Faulty OutOfRange
IsFaultOf NotPremultiplied reading = reading ≡ Faulty NotPremultiplied
IsFaultOf RankTaken reading = reading ≡ Faulty RankTaken
IsFaultOf BadOrder reading = reading ≡ Faulty BadOrder
IsFaultOf NoMemory reading = Unit {0}

-- the answer is what the line says, or its fault
abbrev pub IsLine : Result Line LineFault → LineReading → Type 0
IsLine (Ok line) reading = reading ≡ Says (said_of line)
IsLine (Err fault) reading = IsFaultOf fault reading

-- the answer is what the line says, that it is skipped, or its fault
abbrev pub IsLineOrSkipped : Result (Option Line) LineFault → LineReading → Type 0
IsLineOrSkipped (Ok None) reading = reading ≡ Skipped
IsLineOrSkipped (Ok (Some line)) reading = reading ≡ Says (said_of line)
IsLineOrSkipped (Err fault) reading = IsFaultOf fault reading

-- what holds of a line in a scene with so many ranks and channels up to the greatest
abbrev pub IsLawful : ℕ → ℕ → Line → Type 0
IsLawful ranks most (Ranks count) = (1 ≤ count) × (count ≤ 256)
IsLawful ranks most (Maxval greatest) = (greatest ≤ 65535) × (greatest ≡ greatest_channel (is_wide greatest))
IsLawful ranks most (Background paint) = (paint.z ≡ 0) × IsPaint most paint
IsLawful ranks most (Order order) = HasEachOnce ranks order.items
IsLawful ranks most (TileLine tile) = IsTileArea tile.area × (tile.display ≤ ranks - 1)
IsLawful ranks most (ShapeLine rank shape) = (rank ≤ ranks - 1) × IsInRange shape × IsPainted most (drawing_of shape)
IsLawful ranks most line = Unit {0}

-- a paint's five numbers stand from a place on, each in its range
pub record HasPaintAt (most : ℕ) (ns : List Number) (i : ℕ) : Type 0 where
  pub within : i + 5 ≤ length ns
  pub z : size_at ns i ≤ MAX_DEPTH
  pub r : size_at ns (i + 1) ≤ most
  pub g : size_at ns (i + 2) ≤ most
  pub b : size_at ns (i + 3) ≤ most
  pub a : size_at ns (i + 4) ≤ most

-- the colour of four numbers, at depth 0
abbrev pub colour_of : List Number → FragmentView
colour_of ns = record { r = size_at ns 0; g = size_at ns 1; b = size_at ns 2; a = size_at ns 3; z = 0 }

-- the four numbers of a colour, each in its range
pub record HasColour (most : ℕ) (ns : List Number) : Type 0 where
  pub within : 4 ≤ length ns
  pub r : size_at ns 0 ≤ most
  pub g : size_at ns 1 ≤ most
  pub b : size_at ns 2 ≤ most
  pub a : size_at ns 3 ≤ most

-- there are so many
abbrev pub counts_to : ℕ → Option ℕ → Bool
counts_to count None = false
counts_to count (Some n) = n == count

-- the tile's rank displays none of these
abbrev pub IsFresh : List Tile → Line → Type 0
IsFresh tiles (TileLine tile) = All (λ other. other.display ≢ tile.display) tiles
IsFresh tiles line = Unit {0}

-- the five numbers of a tile, each in its range
pub record HasTileNumbers (ranks : ℕ) (ns : List Number) : Type 0 where
  pub count : 5 ≤ length ns
  pub x : size_at ns 0 ≤ MAX_PLACE
  pub y : size_at ns 1 ≤ MAX_PLACE
  pub w_some : 1 ≤ size_at ns 2
  pub w : size_at ns 2 ≤ MAX_SIDE
  pub h_some : 1 ≤ size_at ns 3
  pub h : size_at ns 3 ≤ MAX_SIDE
  pub display : size_at ns 4 ≤ ranks - 1

-- a corner's seven numbers stand from a place on, each in its range
pub record HasCornerAt (most : ℕ) (ns : List Number) (i : ℕ) : Type 0 where
  pub within : i + 7 ≤ length ns
  pub x : size_at ns i ≤ 262143
  pub y : size_at ns (i + 1) ≤ 262143
  pub paint : HasPaintAt most ns (i + 2)

abbrev pub triangle_at : List Number → Triangle
triangle_at ns = record { a = corner_at ns 1; b = corner_at ns 8; c = corner_at ns 15 }

abbrev pub tri_paints : List Number → List FragmentView
tri_paints ns = paint_at ns 3 ∷ paint_at ns 10 ∷ paint_at ns 17 ∷ []

-- the fault of paints in a row with so much room
abbrev pub row_fault : ℕ → Option (List FragmentView) → Option LineFault
row_fault room None = Some OutOfRange
row_fault room (Some paints) = cond (nat_le (length paints) room) (cond (list_all is_premultiplied paints) None (Some NotPremultiplied)) (Some OutOfRange)

-- the paints' fault is this one; want of memory may come with any
abbrev pub IsRowFault : LineFault → ℕ → Option (List FragmentView) → Type 0
IsRowFault NoMemory room read = Unit {0}
IsRowFault fault room read = row_fault room read ≡ Some fault
